pub mod Settled
pub mod Owned
pub mod Slots
pub mod Places
