pub mod DigestGraphs
