pub mod ContextOrder
pub mod Contexts
pub mod Threads
pub mod inner
