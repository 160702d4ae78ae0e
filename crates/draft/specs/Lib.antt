pub mod Numeral
pub mod Drafts
