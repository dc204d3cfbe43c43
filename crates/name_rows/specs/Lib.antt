pub mod Kinds
pub mod inner
