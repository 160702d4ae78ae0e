pub mod KindLaws
pub mod SignatureLaws
