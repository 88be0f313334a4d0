pub mod Told
pub mod Records
pub mod Settings
pub mod Methods
pub mod Promises
pub mod With
