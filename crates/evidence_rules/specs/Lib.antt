pub mod EvidenceRows
pub mod Meetings
pub mod Reaching
pub mod RowTexts
pub mod Sharings
