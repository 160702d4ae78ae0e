pub mod PutLaws
pub mod Again
pub mod ReadBack
