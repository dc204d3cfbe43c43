pub mod ListingLemmas
pub mod MarkLemmas
pub mod ModelOrderLemmas
