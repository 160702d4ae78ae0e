pub mod Areas
pub mod Written
pub mod Demand
