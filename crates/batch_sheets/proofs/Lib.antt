mod CutLemmas
pub mod DayLemmas
mod FirstLemmas
mod GrowthLemmas
mod JudgeLemmas
mod NameLemmas
mod RangeLemmas
mod RecordLemmas
mod NewDayLemmas
mod NewLemmas
mod ZipLemmas
