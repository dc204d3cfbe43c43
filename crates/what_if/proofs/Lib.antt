pub mod ChangeLemmas
pub mod LosingLemmas
