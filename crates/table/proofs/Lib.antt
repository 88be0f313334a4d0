pub mod RowLaws
pub mod PlaceLaws
