pub mod AddressLaws
pub mod Choices
pub mod FieldLaws
pub mod SourceLaws
