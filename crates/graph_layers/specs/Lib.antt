pub mod Joined
pub mod Layers
pub mod Layouts
pub mod Places
pub mod inner
