pub mod CountLaws
pub mod CountLeft
