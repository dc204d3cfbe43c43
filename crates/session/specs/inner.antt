-- What private contracts alone cite.
pub mod AddFaults
pub mod AddSteps
pub mod Changes
pub mod Steps
