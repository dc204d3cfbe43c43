pub mod Draws
pub mod DrillInput
pub mod InputLaws
pub mod inner
