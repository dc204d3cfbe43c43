pub mod NameLaws
pub mod WaitLaws
