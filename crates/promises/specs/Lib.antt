pub mod Good
pub mod Values
pub mod Told
