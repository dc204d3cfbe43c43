pub mod Overlaps
pub mod Refutes
pub mod Texts
pub mod Totals
