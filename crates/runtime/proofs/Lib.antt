pub mod Usable
pub mod Unique
