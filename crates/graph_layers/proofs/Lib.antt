pub mod ArrowLemmas
pub mod DepthLemmas
pub mod LayerLemmas
pub mod ReachLemmas
pub mod SeatLemmas
