pub mod Written
pub mod Demand
