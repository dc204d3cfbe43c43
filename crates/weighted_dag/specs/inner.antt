pub mod BitSets
pub mod ReductionSteps
pub mod SuccessorLists
