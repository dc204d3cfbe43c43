pub mod EndingLemmas
pub mod InputLemmas
pub mod LineLemmas
pub mod OptionLemmas
pub mod ReasonLemmas
pub mod SpanLemmas
pub mod StatusLemmas
pub mod TakenLemmas
