pub mod Callers
pub mod Demand
pub mod Example
