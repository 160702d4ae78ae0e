pub mod Codes
pub mod CodeTable
pub mod States
