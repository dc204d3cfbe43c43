pub mod Rankings
pub mod Strips
pub mod Tables
pub mod Texts
