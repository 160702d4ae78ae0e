pub mod Hex
pub mod Table
