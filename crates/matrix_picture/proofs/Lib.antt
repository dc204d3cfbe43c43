mod FrameLemmas
mod MarkLemmas
