pub mod Ranges
pub mod View
pub mod Views
pub mod Sounds
pub mod Objects
pub mod ObjectsLaws
pub mod Slots
pub mod Errors
