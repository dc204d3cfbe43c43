pub mod BookLaws
pub mod GraphLaws
pub mod NameLaws
pub mod PastJobs
pub mod Shown
pub mod TextBounds
