pub mod PatternLemmas
