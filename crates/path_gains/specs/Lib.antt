pub mod Gains
pub mod GainLaws
pub mod inner
