pub mod Lines
pub mod Number
pub mod Text
pub mod TableText
pub mod Reading
pub mod Errors
