pub mod AddressBlockLaws
