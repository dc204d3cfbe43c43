pub mod GivenDigests
pub mod JudgedBooks
pub mod JudgedLaws
pub mod KeptDigests
pub mod inner
