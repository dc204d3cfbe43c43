-- What private contracts alone cite.
pub mod CallKeys
pub mod Places
