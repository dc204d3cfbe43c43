pub mod Arrows
pub mod Boxes
pub mod Graphs
pub mod Relations
pub mod Texts
