-- What private contracts alone cite.
pub mod Copies
pub mod KeptRows
pub mod MarkedRows
