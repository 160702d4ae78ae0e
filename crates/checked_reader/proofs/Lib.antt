pub mod FirstLaws
pub mod SpanLaws
