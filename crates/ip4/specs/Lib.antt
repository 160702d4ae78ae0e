pub mod Ip4
pub mod Ip4Verdict
