pub mod FirstLemmas
pub mod HasLemmas
pub mod ModelLemmas
