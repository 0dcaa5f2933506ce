pub mod Signs
pub mod Wide
pub mod Words
