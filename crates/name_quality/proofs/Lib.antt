pub mod AloneLemmas
pub mod GatherLemmas
pub mod LawLemmas
pub mod PatternLemmas
