pub mod Bounds
pub mod Cut
pub mod Limits
pub mod Outgoing
pub mod Boundaries
pub mod Arrived
pub mod InStep
pub mod Streams
