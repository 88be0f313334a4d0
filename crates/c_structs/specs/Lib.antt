pub mod Crossed
pub mod Codes
