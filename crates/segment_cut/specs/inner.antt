-- Facts that only this crate's private contracts cite.
pub mod Keys
pub mod Times
pub mod Segments
