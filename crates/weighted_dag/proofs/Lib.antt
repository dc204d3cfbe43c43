pub mod EdgeLemmas
pub mod BitLemmas
pub mod PathLemmas
pub mod LengthLemmas
pub mod ReducedLemmas
pub mod KeepingLemmas
pub mod ReducingLemmas
pub mod SuccessorListLemmas
