pub mod TaskLines
pub mod WithoutWaits
pub mod inner
