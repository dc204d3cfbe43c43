pub mod NameLemmas
pub mod ElementLemmas
pub mod OrderLemmas
pub mod DayLemmas
pub mod TableLemmas
pub mod FirstLemmas
pub mod ShownLemmas
