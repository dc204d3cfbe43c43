pub mod Histories
pub mod Views
pub mod Rule
pub mod Plays
pub mod Callers
pub mod Laws
pub mod inner
