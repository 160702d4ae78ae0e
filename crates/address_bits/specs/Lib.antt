pub mod Bits
pub mod BitLaws
