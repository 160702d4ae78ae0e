pub mod Crc
pub mod Vectors
pub mod Table
