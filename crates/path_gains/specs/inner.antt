pub mod Around
pub mod Spans
