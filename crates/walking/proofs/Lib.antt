pub mod Turns
pub mod FramedRead
pub mod Other
pub mod Stands
pub mod Visits
pub mod Live
