pub mod Carrying
pub mod FirstLines
pub mod Judging
pub mod Steps
