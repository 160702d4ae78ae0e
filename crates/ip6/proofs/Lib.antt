pub mod Spread
pub mod Gathered
pub mod Turn
pub mod AtGroup
pub mod AtColon
pub mod Leasts
pub mod Parser
pub mod Steps
