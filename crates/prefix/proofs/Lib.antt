pub mod PrefixTests
