pub mod Writing
pub mod Streams
