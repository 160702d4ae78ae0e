pub mod IdLaws
pub mod Counted
