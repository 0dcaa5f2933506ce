pub mod Firm
pub mod Walked
