pub mod Told
pub mod MachineTallies
pub mod inner
