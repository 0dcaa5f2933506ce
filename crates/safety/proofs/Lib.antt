pub mod Linked
pub mod Accepted
pub mod Loads
pub mod Values
pub mod WellFormed
