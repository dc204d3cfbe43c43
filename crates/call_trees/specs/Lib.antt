pub mod Below
pub mod Orders
pub mod Ordinals
pub mod Tables
pub mod Walks
pub mod inner
