pub mod Word
pub mod Argument
pub mod Units
pub mod Spelling
pub mod Faults
pub mod Reading
pub mod Errors
