pub mod Network32
