pub mod Facts
pub mod Laws
pub mod Left
