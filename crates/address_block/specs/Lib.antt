pub mod AddressBlock
