mod OrderLemmas
mod ShadeLemmas
mod WidthLemmas
