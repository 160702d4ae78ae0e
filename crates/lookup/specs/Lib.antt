pub mod Lookup
pub mod Joining
pub mod Laws
pub mod First
