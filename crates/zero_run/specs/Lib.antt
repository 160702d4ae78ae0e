pub mod ZeroRun
pub mod Longest
