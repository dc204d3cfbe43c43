pub mod CommandLines
pub mod Lines
pub mod Messages
pub mod Parts
pub mod inner
pub mod Runs
