pub mod SpansOfFiles
pub mod inner
