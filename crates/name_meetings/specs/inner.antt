-- What private contracts alone cite.
pub mod Adding
pub mod Circles
pub mod Gaps
pub mod Noting
pub mod Pairs
pub mod States
pub mod Strips
