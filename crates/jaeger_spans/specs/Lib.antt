pub mod Kinds
pub mod Origins
pub mod Parents
pub mod SpansOfJaeger
pub mod inner
