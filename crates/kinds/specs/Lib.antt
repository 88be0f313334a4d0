pub mod Refusals
pub mod Choices
pub mod Fields
pub mod Layout
pub mod Told
