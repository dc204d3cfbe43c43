pub mod Frames
pub mod Marks
pub mod Matrices
pub mod Places
pub mod Texts
