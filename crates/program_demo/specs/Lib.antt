pub mod Agreement
pub mod Moves
pub mod Session
pub mod Playing
pub mod Demo
