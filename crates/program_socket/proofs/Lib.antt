pub mod Turns
pub mod Plays
pub mod Known
