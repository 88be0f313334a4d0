pub mod Ascii
pub mod Numbers
pub mod Page
pub mod Told
