pub mod Faults
pub mod Fields
pub mod Kinds
pub mod Pages
pub mod RowFields
pub mod Rows
pub mod inner
