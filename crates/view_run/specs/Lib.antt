pub mod CommandLines
pub mod Endings
pub mod Messages
pub mod inner
