pub mod Joined
pub mod Decimals
pub mod DraftLaws
pub mod NumeralLaws
