pub mod GroupLaws
pub mod Groups
pub mod inner
