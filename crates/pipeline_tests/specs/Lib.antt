pub mod DayLaws
pub mod DaySheets
pub mod Rows
pub mod inner
