pub mod WriteInterface
