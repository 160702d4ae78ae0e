pub mod UniqueId
