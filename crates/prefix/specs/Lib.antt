pub mod Prefix
pub mod PrefixTests
