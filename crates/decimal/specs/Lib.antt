pub mod Decimal
pub mod DecimalVerdict
pub mod DecimalLeaf
pub mod Grows
