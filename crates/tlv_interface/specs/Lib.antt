pub mod TlvInterface
