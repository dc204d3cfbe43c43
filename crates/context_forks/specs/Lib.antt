pub mod Forks
pub mod Partners
pub mod inner
