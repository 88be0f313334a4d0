pub mod Fields
pub mod Rows
pub mod Codes
pub mod Homes
pub mod Told
