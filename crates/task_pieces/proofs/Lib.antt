pub mod OrderLemmas
pub mod StepLemmas
pub mod PlacingLemmas
pub mod FreeLemmas
pub mod CutLemmas
pub mod NumberLemmas
pub mod NameLemmas
pub mod NamingLemmas
