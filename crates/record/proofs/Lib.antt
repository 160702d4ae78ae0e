pub mod InMemory
pub mod HeldLaws
pub mod RecordLaws
pub mod Table
