-- What private contracts alone cite.
pub mod Ends
pub mod Firsts
pub mod Named
pub mod Tables
