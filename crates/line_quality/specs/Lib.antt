pub mod BadLines
pub mod EventsRead
pub mod Judging
pub mod Members
pub mod inner
