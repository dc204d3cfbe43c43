pub mod FindingLemmas
pub mod JsonValueLemmas
pub mod LineStartLemmas
pub mod NumberLemmas
pub mod SaidLemmas
pub mod SortingLemmas
