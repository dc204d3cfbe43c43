-- What private contracts alone cite.
pub mod Cuts
pub mod Groups
pub mod Growth
pub mod PartNumbers
pub mod Placing
pub mod Renumbering
pub mod Tables
pub mod TextNumbers
