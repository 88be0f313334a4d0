pub mod Strings
pub mod Sentences
pub mod Told
pub mod StringLaws
