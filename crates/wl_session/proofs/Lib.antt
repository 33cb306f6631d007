pub mod CallOutcomes
pub mod InboxSizes
pub mod CarriedPieces
pub mod MoveLists
pub mod SameObjects
