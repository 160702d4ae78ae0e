pub mod BitLaws
pub mod BitTests
