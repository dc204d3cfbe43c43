pub mod ReadableDigests
pub mod ReadingLaws
