pub mod NoteLaws
pub mod Laws
pub mod Noted
pub mod Turn
