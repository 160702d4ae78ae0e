pub mod Table
pub mod TableTests
pub mod TableLaws
