pub mod Rooms
pub mod Scales
pub mod Texts
