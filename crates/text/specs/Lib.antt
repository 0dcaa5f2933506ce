pub mod Ascii
pub mod Digits
pub mod Identifier
pub mod Line
