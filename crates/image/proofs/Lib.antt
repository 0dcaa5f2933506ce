pub mod Bytes
pub mod Forms
pub mod Checks
pub mod Agree
pub mod Parts
pub mod Unique
pub mod Numbers
pub mod Slices
