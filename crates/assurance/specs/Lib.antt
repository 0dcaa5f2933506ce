pub mod Edges
pub mod Acceptance
pub mod Callers
