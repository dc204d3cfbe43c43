pub mod WalkLemmas
