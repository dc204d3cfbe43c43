pub mod BoxRelations
pub mod Boxes
pub mod BucketFigures
pub mod GainsOver
pub mod LoadBars
pub mod LoadRanks
pub mod RowTexts
pub mod SlackLists
