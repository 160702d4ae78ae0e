pub mod Demand
pub mod Lengths
pub mod LineLaws
