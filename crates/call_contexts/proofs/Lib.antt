pub mod FrameLemmas
pub mod LikeLemmas
pub mod ListLemmas
pub mod OrderLemmas
pub mod ThreadLemmas
