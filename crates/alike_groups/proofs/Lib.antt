pub mod GroupLemmas
pub mod LawLemmas
pub mod OrderLemmas
