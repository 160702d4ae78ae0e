pub mod Placed
pub mod Buffers
pub mod Same
