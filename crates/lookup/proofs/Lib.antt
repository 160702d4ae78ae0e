pub mod Seek
pub mod First
pub mod JoinedLists
pub mod Joining
pub mod Laws
pub mod LookupLemmas
pub mod JoinedFurther
