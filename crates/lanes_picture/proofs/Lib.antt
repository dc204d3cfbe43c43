mod LaneLemmas
mod LawLemmas
