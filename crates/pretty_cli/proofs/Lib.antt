pub mod CutLemmas
pub mod NumberLemmas
pub mod PrintLemmas
pub mod RowLemmas
