pub mod EndingLaws
pub mod ReadyLaws
pub mod WatchLaws
