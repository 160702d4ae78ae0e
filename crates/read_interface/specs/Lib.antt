pub mod ReadInterface
pub mod LoadInterface
pub mod AcceptedTold
