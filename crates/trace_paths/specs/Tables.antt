-- Durations by the numbers of names.
use Rattle.std.specs.Prelude.{◌≡◌, ℕ, ◌<◌, nat_eq, List, [], length, slice_index_or}
use Rattle.trace_rules.specs.Durations.{durations_of}
use Rattle.trace_types.specs.declared.named_segment.NamedSegment.{NamedSegment}
use Rattle.trace_types.specs.Parts.{by_number}

-- the list of a name's number
abbrev pub list_at : List (List ℕ) → ℕ → List ℕ
list_at table n = slice_index_or table n []

-- a list for each number below this one: how long each of the segments with that name lasts
pub record IsTableOf (names : ℕ) (segments : List NamedSegment) (table : List (List ℕ)) : Type 0
  where
    pub count : length table ≡ names
    pub lists : (n : ℕ) → n < names → list_at table n ≡ durations_of by_number nat_eq n segments
