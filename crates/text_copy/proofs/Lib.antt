pub mod Packets
pub mod Copies
pub mod Told
pub mod Steps
