pub mod ImplyLemmas
pub mod MatrixLemmas
pub mod ReachLemmas
