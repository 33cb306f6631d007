pub mod AsBox
mod BadLines
mod GivenArguments
mod ToldArguments
mod SpelledArguments
