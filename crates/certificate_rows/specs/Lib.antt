pub mod CertificateLaws
pub mod Orders
pub mod inner
