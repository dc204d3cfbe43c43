pub mod BitGraphs
pub mod GraphLaws
pub mod RenamedGraphs
pub mod inner
