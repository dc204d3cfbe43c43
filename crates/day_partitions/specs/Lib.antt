pub mod Batches
pub mod Books
pub mod Faults
pub mod Kept
pub mod Meets
pub mod inner
