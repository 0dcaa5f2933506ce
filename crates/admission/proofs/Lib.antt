pub mod Operands
pub mod Functions
pub mod Programs
pub mod Unique
pub mod Agree
