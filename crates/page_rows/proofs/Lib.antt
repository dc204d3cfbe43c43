mod FieldLemmas
mod NumberLemmas
mod ReadingLemmas
mod RowLemmas
