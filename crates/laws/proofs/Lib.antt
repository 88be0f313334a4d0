pub mod Pick
pub mod First
pub mod Lists
pub mod Bits
pub mod EachBelow
