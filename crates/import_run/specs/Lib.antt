pub mod CommandLines
pub mod Endings
pub mod Inputs
pub mod Messages
pub mod inner
