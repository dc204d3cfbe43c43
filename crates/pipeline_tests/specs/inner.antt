-- What private contracts alone cite.
pub mod Groups
pub mod Meetings
pub mod Pairs
pub mod Stays
