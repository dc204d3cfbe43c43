pub mod Digests
pub mod Gathered
pub mod LentEvents
pub mod Numbers
pub mod Texts
pub mod inner
