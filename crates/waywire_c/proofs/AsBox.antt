-- A handle and its parts own what a box at the same types owns.
pub mod End
pub mod Inspector
pub mod Tables
