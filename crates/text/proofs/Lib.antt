pub mod Glyphs
pub mod Stores
pub mod Texts
pub mod Widths
pub mod Apart
pub mod Unique
