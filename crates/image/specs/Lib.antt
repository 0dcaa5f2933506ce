pub mod Fields
pub mod Records
pub mod Image
pub mod WellFormed
pub mod Program
pub mod Parts
