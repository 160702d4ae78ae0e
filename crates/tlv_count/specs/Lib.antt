pub mod Count
pub mod CountLaws
