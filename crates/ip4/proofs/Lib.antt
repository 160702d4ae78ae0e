pub mod Turn
pub mod Ip4Laws
pub mod Ip4Leaf
pub mod Ip4Parser
