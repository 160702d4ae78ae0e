pub mod WrittenLaws
pub mod AreaLaws
pub mod Demand
pub mod OrderLaws
pub mod WholeBlock
