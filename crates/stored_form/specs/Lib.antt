pub mod Heads
pub mod Stored
pub mod Loading
pub mod Meaning
pub mod Converting
pub mod Table
