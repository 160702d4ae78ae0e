pub mod Converting
pub mod HeadLaws
pub mod LoadLaws
pub mod Moving
pub mod RoundTrip
pub mod Table
