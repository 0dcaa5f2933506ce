pub mod Flow
pub mod Straight
