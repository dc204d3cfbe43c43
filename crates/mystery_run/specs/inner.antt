-- What private contracts alone cite.
pub mod Actions
pub mod FaultEndings
pub mod GivenTables
pub mod GivenWords
pub mod InputEnds
pub mod Inputs
pub mod LastJobs
pub mod Leaving
pub mod OutcomeFaults
pub mod ParsedLines
pub mod ReadingTwice
pub mod Replaying
