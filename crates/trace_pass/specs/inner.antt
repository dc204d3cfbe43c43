-- What private contracts alone cite.
pub mod Parts
pub mod LittleWork
pub mod Working
pub mod Closing
