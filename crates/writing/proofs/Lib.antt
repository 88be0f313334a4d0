pub mod Blank
pub mod Cases
