pub mod CheckedReading
pub mod First
