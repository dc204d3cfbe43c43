pub mod Keeping
pub mod Pools
pub mod inner
