pub mod Agrees
pub mod Steps
pub mod Runs
pub mod Entries
pub mod Leftover
