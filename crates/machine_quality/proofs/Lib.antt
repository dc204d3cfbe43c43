pub mod ListLemmas
pub mod TellingLemmas
pub mod SightLemmas
pub mod TallyLemmas
pub mod LawLemmas
