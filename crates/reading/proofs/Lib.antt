pub mod TextRows
pub mod Choices
pub mod Bodies
pub mod Search
pub mod Repeats
pub mod Passes
pub mod HeadedRead
