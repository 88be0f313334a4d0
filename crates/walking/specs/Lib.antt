pub mod Stands
pub mod Visits
pub mod Live
pub mod Other
