-- Facts that only this crate's private contracts cite.
pub mod Digests
pub mod MessagePlaces
pub mod Chains
pub mod NumberChains
pub mod Numbers
pub mod Places
pub mod Links
pub mod Delays
pub mod Search
