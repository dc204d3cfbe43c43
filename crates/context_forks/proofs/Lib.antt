pub mod MarkLemmas
pub mod PairLemmas
pub mod PartnerLemmas
pub mod SiblingLemmas
