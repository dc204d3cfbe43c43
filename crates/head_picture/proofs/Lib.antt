mod RefusedLemmas
mod TaskLemmas
