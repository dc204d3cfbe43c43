pub mod CountLemmas
pub mod CountedLemmas
pub mod CutLemmas
pub mod NameLemmas
pub mod PairLemmas
