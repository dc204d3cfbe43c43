pub mod DrawnLemmas
pub mod HoldingLemmas
