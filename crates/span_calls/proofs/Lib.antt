pub mod CallLemmas
pub mod PairLemmas
pub mod PlaceLemmas
pub mod RiseLemmas
pub mod SeenLemmas
pub mod ShallowLemmas
pub mod UnderLemmas
