-- What private contracts alone cite.
pub mod Calls
pub mod Known
pub mod Pending
pub mod Said
pub mod Steps
