pub mod Rows
pub mod Freed
pub mod Chain
pub mod SlotRows
pub mod SlotViews
pub mod ObjectsCalls
