pub mod CarryLemmas
pub mod CleaningLemmas
pub mod GoodLemmas
pub mod JudgingLemmas
pub mod LawLemmas
pub mod LineLemmas
pub mod RunLemmas
pub mod StepLemmas
