pub mod Checksum
pub mod Checked
pub mod State
pub mod Example
