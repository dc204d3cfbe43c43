pub mod WeightLemmas
pub mod AroundLemmas
pub mod LossLemmas
pub mod LawLemmas
pub mod SpanLemmas
