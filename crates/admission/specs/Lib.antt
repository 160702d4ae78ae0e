pub mod Answers
pub mod Admits
pub mod Demand
pub mod Callers
