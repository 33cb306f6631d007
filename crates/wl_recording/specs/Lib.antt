pub mod Piece
pub mod Line
pub mod Text
pub mod Errors
