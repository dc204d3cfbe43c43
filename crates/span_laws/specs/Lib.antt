pub mod GoodLines
pub mod LineLaws
pub mod RequestLaws
