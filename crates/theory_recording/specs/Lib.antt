pub mod Leads
pub mod Recorded
pub mod Follows
pub mod Linked
