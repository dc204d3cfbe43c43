pub mod WitnessLaws
pub mod inner
