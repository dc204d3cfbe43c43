pub mod InputSpans
pub mod SpansOfForms
