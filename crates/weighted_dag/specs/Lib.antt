pub mod Graphs
pub mod Chains
pub mod Slacks
pub mod Reductions
pub mod inner
