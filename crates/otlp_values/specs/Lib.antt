pub mod Kinds
pub mod SpansOfOtlp
