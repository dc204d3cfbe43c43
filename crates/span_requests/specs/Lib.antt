pub mod CallerNumbers
pub mod Callers
pub mod Entries
pub mod Faults
pub mod Requests
pub mod SpansOnce
pub mod inner
