pub mod GainRows
pub mod inner
