pub mod FigureLemmas
pub mod ListLemmas
pub mod PipeLemmas
pub mod PlaceLemmas
pub mod StayLemmas
