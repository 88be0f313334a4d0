pub mod Page
pub mod Puts
pub mod Numbers
pub mod Room
pub mod FromLast
pub mod Told
