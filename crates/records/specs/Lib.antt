pub mod Records
pub mod Settings
pub mod Answers
pub mod Told
