pub mod Example
pub mod Numbers
pub mod Ahead
pub mod Lines
pub mod Lengths
pub mod Room
pub mod Told
