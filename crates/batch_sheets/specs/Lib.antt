pub mod Named
pub mod Recorded
pub mod Splitting
pub mod inner
