-- What private contracts alone cite.
pub mod InputReadings
pub mod Leaving
pub mod OptionSteps
pub mod ParsedLines
pub mod Taken
