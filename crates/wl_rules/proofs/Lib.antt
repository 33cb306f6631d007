pub mod FirstPlaces
pub mod FirstBrokenLine
mod NoneMade
pub mod Extensions
