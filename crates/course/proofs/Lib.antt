pub mod Cases
pub mod Words
pub mod Entered
pub mod Courses
pub mod Traps
pub mod Along
pub mod Fuel
pub mod Counts
