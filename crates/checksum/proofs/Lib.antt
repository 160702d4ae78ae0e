pub mod ChecksumLaws
pub mod Demand
pub mod Example
pub mod State
