pub mod AddLaws
pub mod Carrying
pub mod Running
pub mod SessionStates
pub mod Sheets
pub mod inner
