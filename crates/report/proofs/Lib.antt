pub mod Lengths
pub mod Line
pub mod Streams
