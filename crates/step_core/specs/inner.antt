-- What private contracts alone cite.
pub mod Briefs
pub mod Naming
pub mod StepNumbers
