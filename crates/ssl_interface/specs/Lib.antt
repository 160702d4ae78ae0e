pub mod SslInterface
