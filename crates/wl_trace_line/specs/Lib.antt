pub mod Text
pub mod Argument
pub mod Line
pub mod Report
