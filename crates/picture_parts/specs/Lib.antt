pub mod Bars
pub mod Names
pub mod Places
