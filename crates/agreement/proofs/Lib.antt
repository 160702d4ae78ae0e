pub mod Checked
pub mod Stored
pub mod Tlvs
