pub mod DigestLemmas
pub mod DigitLemmas
pub mod FieldLemmas
pub mod LineLemmas
pub mod LongLemmas
pub mod RowLemmas
pub mod TextLemmas
