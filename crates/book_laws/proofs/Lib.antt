pub mod BookLemmas
mod FoundLemmas
pub mod GraphLemmas
mod GrownLemmas
mod HypothesisLemmas
mod LawLemmas
mod ListLemmas
mod NameLemmas
mod PastLemmas
mod RefutedLemmas
mod ShareLemmas
pub mod SheetLemmas
mod TakenLemmas
mod WatchLawLemmas
