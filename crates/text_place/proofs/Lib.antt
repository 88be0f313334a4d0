pub mod Lent
pub mod Examples
