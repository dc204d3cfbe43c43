pub mod CountLemmas
pub mod SlowLemmas
pub mod MarkLemmas
pub mod PathLemmas
pub mod TailLemmas
