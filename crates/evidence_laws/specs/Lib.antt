pub mod FirstLaws
pub mod ModelLaws
