pub mod Addresses
pub mod Gaps
pub mod Form
