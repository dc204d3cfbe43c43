pub mod CircleLemmas
pub mod FigureLemmas
pub mod StripLemmas
pub mod TableLemmas
pub mod TurnLemmas
