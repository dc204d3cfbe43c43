pub mod AllPathsLemmas
pub mod BookLemmas
pub mod OnePathLemmas
pub mod OrderLemmas
pub mod PathLemmas
pub mod PathTimeLemmas
pub mod TableLemmas
pub mod UnderLemmas
