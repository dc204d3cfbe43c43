pub mod Heats
pub mod Tails
pub mod Texts
