pub mod Listed
pub mod Wrote
