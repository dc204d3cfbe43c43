mod LeastLemmas
mod OrderLemmas
mod ScaleLemmas
