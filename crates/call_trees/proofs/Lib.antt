pub mod GroupLemmas
pub mod OrderLemmas
pub mod OrdinalLemmas
pub mod TableLemmas
pub mod WalkLemmas
