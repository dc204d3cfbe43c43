pub mod LeadingLemmas
pub mod IntoLemmas
pub mod GrowthLemmas
