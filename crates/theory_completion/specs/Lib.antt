pub mod Completion
pub mod Doubt
pub mod Samples
