pub mod Halves
pub mod Kinds
pub mod SpansOfZipkin
pub mod inner
