pub mod Ranges
pub mod First
pub mod Says
pub mod Past
pub mod There
