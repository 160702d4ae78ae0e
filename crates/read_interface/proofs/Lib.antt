pub mod ReadLaws
pub mod CheckedLaws
pub mod AcceptedTold
