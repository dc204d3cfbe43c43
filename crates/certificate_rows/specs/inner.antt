-- What private contracts alone cite.
pub mod ClaimsShown
pub mod Numbered
pub mod Pairs
pub mod Sources
pub mod Wholes
