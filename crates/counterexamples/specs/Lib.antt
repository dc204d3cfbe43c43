pub mod Findings
pub mod FirstRefuters
pub mod ShownClaims
pub mod inner
