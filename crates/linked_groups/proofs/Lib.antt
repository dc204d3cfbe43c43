pub mod GroupLemmas
pub mod TreeLemmas
