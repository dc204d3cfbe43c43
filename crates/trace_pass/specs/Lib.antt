pub mod Rows
pub mod States
pub mod Faults
pub mod Counts
pub mod Watch
pub mod Meaning
pub mod inner
