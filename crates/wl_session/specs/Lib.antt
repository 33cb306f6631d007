pub mod Meaning
pub mod Room
pub mod Copied
pub mod Tee
