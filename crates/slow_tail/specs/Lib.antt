pub mod SlowLaws
pub mod SlowReports
pub mod inner
