pub mod Line
pub mod Block
pub mod Header
pub mod Demand
pub mod Table
