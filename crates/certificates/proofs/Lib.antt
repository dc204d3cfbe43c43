pub mod ClaimLemmas
pub mod FieldLemmas
pub mod PartedLemmas
pub mod TextLemmas
