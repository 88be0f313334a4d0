pub mod Heads
pub mod Octets
pub mod Written
pub mod Bytes
pub mod Place
pub mod Handed
pub mod BigEndian
pub mod Told
