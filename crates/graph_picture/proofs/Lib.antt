mod CapLemmas
pub mod LineLemmas
pub mod TextLemmas
