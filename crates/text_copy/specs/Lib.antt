pub mod Copied
pub mod Words
pub mod Steps
pub mod Told
