pub mod FillLemmas
mod PieceLemmas
mod Progress
pub mod TextLemmas
mod WriteLemmas
