pub mod Line
pub mod LineVerdict
pub mod LineLeaf
