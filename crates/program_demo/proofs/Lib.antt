pub mod LessIsLeft
pub mod Runs
pub mod Shown
