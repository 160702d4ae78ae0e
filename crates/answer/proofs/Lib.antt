pub mod OneSight
pub mod OutputLaws
pub mod PlaceLaws
