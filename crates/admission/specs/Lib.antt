pub mod Verdict
pub mod Admissible
