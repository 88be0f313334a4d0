pub mod Numbers
pub mod FromNumbers
pub mod BySlot
pub mod SetOne
pub mod Told
