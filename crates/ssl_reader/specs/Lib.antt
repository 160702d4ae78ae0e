pub mod Ssl
pub mod Told
pub mod Laws
pub mod Noted
