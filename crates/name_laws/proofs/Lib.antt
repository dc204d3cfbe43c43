pub mod BaseLemmas
pub mod EndingLemmas
pub mod GoodNameLemmas
