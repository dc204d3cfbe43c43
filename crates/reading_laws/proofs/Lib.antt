pub mod TextLemmas
pub mod LineLemmas
pub mod GoodLemmas
pub mod NameLemmas
pub mod WholeLemmas
