pub mod Given
pub mod RequestLaws
