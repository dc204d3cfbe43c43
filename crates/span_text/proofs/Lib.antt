pub mod JsonValueLemmas
pub mod NumberLemmas
pub mod ListLemmas
