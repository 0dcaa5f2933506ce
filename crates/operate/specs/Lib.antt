pub mod Rule
pub mod Opcodes
pub mod Operate
pub mod Parts
pub mod Values
