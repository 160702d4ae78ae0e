pub mod Kinds
pub mod Tabulated
pub mod Table
pub mod Records
pub mod HeldLaws
