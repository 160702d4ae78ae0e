pub mod KindAt
