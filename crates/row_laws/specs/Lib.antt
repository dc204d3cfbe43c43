pub mod ModelRows
pub mod NamedRows
pub mod NearlyRows
pub mod ReducedRows
pub mod RowFigures
pub mod TraceCounts
pub mod WitnessRows
