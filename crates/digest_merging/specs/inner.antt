-- What private contracts alone cite.
pub mod AllTables
pub mod MergedRows
