pub mod SurvivorLemmas
pub mod StayLemmas
pub mod GroupLemmas
pub mod MeetingLemmas
pub mod SharingLemmas
pub mod TaskLemmas
