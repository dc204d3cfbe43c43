pub mod GapLemmas
pub mod NearLemmas
pub mod GraceLemmas
