pub mod CharacterLemmas
pub mod CutLemmas
pub mod NumberedLemmas
pub mod FoldingLemmas
pub mod EscapeLemmas
pub mod NumberingLemmas
