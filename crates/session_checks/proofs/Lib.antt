pub mod PairLemmas
pub mod RequestLemmas
