pub mod GrowingLemmas
pub mod PredictedLemmas
pub mod SumLemmas
