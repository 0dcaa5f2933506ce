pub mod Edges
pub mod Numbered
pub mod Acceptance
pub mod Reliable
pub mod Callers
pub mod Named
pub mod Runner
pub mod InFrames
