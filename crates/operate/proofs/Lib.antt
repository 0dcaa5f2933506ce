pub mod Words
pub mod Order
pub mod Rows
pub mod Values
