pub mod Levels
pub mod RowLaws
pub mod TableLaws
pub mod Far
