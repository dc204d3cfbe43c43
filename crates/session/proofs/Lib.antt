mod AddLemmas
mod AddingLemmas
mod CarryLemmas
mod ControlLemmas
mod CountLemmas
mod DayLemmas
mod GivenLemmas
mod JudgeLemmas
mod KnownLemmas
mod RunLemmas
mod SheetLemmas
mod SplitLemmas
pub mod JobRunLemmas
