pub mod CountLaws
pub mod Counting
pub mod ExclusionTables
pub mod LineCounts
pub mod ModelStates
pub mod RelationBits
pub mod Telling
pub mod inner
