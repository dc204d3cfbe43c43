pub mod RowLaws
pub mod inner
