pub mod FewLemmas
pub mod GrammarLemmas
pub mod InputLemmas
pub mod LimitLemmas
pub mod LineLemmas
pub mod OutcomeLemmas
pub mod TextLemmas
