-- What private contracts alone cite.
pub mod CutParts
pub mod Gaps
pub mod Groupings
pub mod StepRows
