pub mod Turns
pub mod Octets
