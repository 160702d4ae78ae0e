pub mod Longest
pub mod RunLaws
