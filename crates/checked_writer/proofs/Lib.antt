pub mod PutLaws
pub mod Demand
pub mod RequestLaws
