mod DrawLemmas
mod LengthLemmas
mod LineLemmas
mod TraceLemmas
