pub mod Fronts
mod Judged
mod ReadLines
mod Written
