pub mod Replays
pub mod Journals
pub mod Faults
pub mod inner
