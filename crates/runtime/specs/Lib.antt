pub mod Trap
pub mod Profile
pub mod Fuel
