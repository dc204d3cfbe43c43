pub mod CallLaws
pub mod ContextLaws
pub mod OrderLaws
pub mod OverlapLaws
