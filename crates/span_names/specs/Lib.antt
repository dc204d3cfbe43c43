pub mod Folding
pub mod NameLaws
pub mod Names
pub mod inner
