pub mod AdjustedTimes
pub mod Neighbours
pub mod Elements
pub mod NumberedCuts
pub mod Cutting
pub mod Faults
pub mod Scaling
pub mod inner
