pub mod AnswerLemmas
pub mod DecisionLemmas
pub mod ElementLemmas
pub mod GrowingLemmas
pub mod NameLemmas
pub mod OrderLemmas
pub mod PairLemmas
pub mod RefuterLemmas
