pub mod Twins
pub mod Forwarding
