pub mod LineLeaf
pub mod LongLine
pub mod LineParser
