pub mod Flows
pub mod Stays
pub mod Holds
