pub mod CrossLemmas
pub mod FillingLemmas
pub mod LendLemmas
pub mod PlaceLemmas
