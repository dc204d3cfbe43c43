pub mod CountLemmas
pub mod CountingLemmas
pub mod JoinLemmas
pub mod LineLemmas
pub mod PairLineLemmas
pub mod TableLemmas
pub mod TellingLemmas
