mod GreatestLemmas
mod OrderLemmas
