pub mod Connection
