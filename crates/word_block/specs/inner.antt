pub mod Blocks
pub mod Filling
pub mod Handover
pub mod Ownership
pub mod PlaceLends
