pub mod Walks
pub mod OneNumber
pub mod Texts
pub mod Told
