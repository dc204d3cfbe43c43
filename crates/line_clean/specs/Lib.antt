pub mod CommandLines
pub mod Lines
pub mod Messages
pub mod Runs
pub mod inner
