pub mod AddressLaws
pub mod Form
pub mod Gaps
pub mod Texts
