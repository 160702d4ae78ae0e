pub mod AddressLaws
pub mod LengthLaws
pub mod SkippedLaws
pub mod AcceptedLaws
pub mod KindLaws
pub mod Leaves
pub mod Parts
pub mod Takes
