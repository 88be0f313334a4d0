pub mod Rules
pub mod Bodies
pub mod OnePass
pub mod Framed
