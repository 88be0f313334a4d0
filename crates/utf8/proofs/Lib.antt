pub mod Valid
pub mod Verdicts
pub mod Zeros
pub mod Small
pub mod Ones
pub mod Steps
pub mod Same
pub mod Told
