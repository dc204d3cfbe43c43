-- What private contracts alone cite.
pub mod ComputedParts
pub mod NumberedTraces
pub mod Pieces
pub mod PreparedBooks
pub mod ShownTraces
