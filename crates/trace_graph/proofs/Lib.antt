pub mod GraphLemmas
pub mod KeyLemmas
pub mod LawLemmas
pub mod RenamedLemmas
pub mod SuccessorLemmas
pub mod ToldLemmas
pub mod UniqueLemmas
