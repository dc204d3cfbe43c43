pub mod AlikeTexts
pub mod GivenJobs
pub mod MergeOrders
pub mod OrderLaws
pub mod PartLaws
pub mod PlainModels
pub mod PrintedLaws
pub mod StandingLaws
