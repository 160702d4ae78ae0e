pub mod BufferLaws
pub mod NetworkLaws
pub mod PlacedLaws
pub mod Same
