pub mod Rows
pub mod Heads
pub mod Targets
pub mod Singles
