pub mod Checked
pub mod Fixed
pub mod Value
pub mod Result
pub mod Digest
