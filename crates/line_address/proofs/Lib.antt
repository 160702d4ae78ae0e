pub mod AddressLaws
pub mod FamilyLaws
