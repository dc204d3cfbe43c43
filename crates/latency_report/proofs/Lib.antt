pub mod MedianLemmas
pub mod ReportLemmas
pub mod RowLemmas
