pub mod Roomy
pub mod Enough
pub mod Recorded
