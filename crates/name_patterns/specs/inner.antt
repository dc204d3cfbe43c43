-- What private contracts alone cite.
pub mod Bytes
pub mod Lists
