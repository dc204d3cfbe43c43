pub mod CallerLemmas
pub mod LiveLemmas
pub mod MapLemmas
pub mod MeetLemmas
pub mod PoolLemmas
pub mod RowLemmas
pub mod SoundLemmas
pub mod WidthLemmas
