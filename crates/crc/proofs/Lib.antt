pub mod Xor
pub mod Linear
pub mod Tested
pub mod Turn
pub mod Around
pub mod PartLaws
pub mod Vectors
