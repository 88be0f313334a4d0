pub mod Target
pub mod Fixed
