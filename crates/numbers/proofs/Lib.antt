pub mod AsNumbers
pub mod BySlot
pub mod Within
pub mod Accepted
pub mod Computed
pub mod Back
pub mod OneNumber
pub mod Told
