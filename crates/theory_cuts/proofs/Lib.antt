mod Taken
pub mod AnyCut
pub mod OneReading
