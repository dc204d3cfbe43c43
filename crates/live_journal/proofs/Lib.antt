pub mod ReplayLemmas
pub mod BookLemmas
