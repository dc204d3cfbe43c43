-- What private contracts alone cite.
pub mod Insides
pub mod Nodes
pub mod Rooms
pub mod Slots
pub mod Trees
