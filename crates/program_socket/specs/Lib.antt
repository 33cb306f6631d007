pub mod Streams
pub mod Playing
pub mod Sessions
pub mod Socket
