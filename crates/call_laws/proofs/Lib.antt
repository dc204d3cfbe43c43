pub mod ContextLemmas
pub mod InputLemmas
pub mod OnceLemmas
pub mod OrderLemmas
pub mod OverlapLemmas
pub mod RootLemmas
pub mod TogetherLemmas
