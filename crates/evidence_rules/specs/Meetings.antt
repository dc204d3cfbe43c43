-- The meetings of two names A and B in a list of traces: a trace that has a segment of each. A trace
-- has at most one segment of a name, so there is at most one meeting a trace. Times are in
-- nanoseconds, indices count from 0. This is the project's own.
use Rattle.std.specs.Prelude.{◌≡◌, ℕ, ◌+◌, ℤ, pos, neg_ℤ, ◌-ℤ◌, ◌≤ℤ◌, int_lt, Bool, ◌&&◌}
use Rattle.std.specs.Prelude.{if◌then◌else◌, List, [], ◌∷◌, ◌++◌, length, map, filter, count_by, All}
use Rattle.std.specs.Prelude.{Contains, flat_map}
use Rattle.trace_types.specs.Parts.{Parts}
use Rattle.evidence_rules.specs.declared.between.Between.{Between}
use Rattle.evidence_rules.specs.declared.meeting.Meeting.{Meeting}

-- it refutes that A happens before B: B starts before A ends, by more than the trace's grace
abbrev pub is_early : Meeting → Bool
is_early m = int_lt m.gap (neg_ℤ (pos m.grace))

-- it refutes that B happens before A
abbrev pub is_turned : Meeting → Bool
is_turned m = int_lt m.back (neg_ℤ (pos m.grace))

-- it refutes that the two are mutually exclusive
abbrev pub is_both : Meeting → Bool
is_both m = is_early m && is_turned m

-- the gap between the two in whichever order they come: the greater of the two gaps
abbrev pub distance : Meeting → ℤ
distance m = if int_lt m.gap m.back then m.back else m.gap

module _ {A S N T E : Type 0} (p : Parts A S N T E) where
  -- the meeting of two segments of a trace
  abbrev pub meeting : ℕ → A → S → S → Meeting
  meeting index trace s t = record {
    trace = index;
    grace = p.grace trace;
    gap = p.start t -ℤ p.end s;
    back = p.start s -ℤ p.end t;
  }

module _ {A S N T E : Type 0} (p : Parts A S N T E) (same : N → N → Bool) where
  -- the meetings of A and B in one trace; `same` tells whether two names are one
  abbrev pub meetings_in : N → N → ℕ → A → List Meeting
  meetings_in a b index trace =
      flat_map (λ s. flat_map (λ t. if same (p.name s) a && same (p.name t) b
      then meeting p index trace s t ∷ [] else []) (p.segments trace)) (p.segments trace)

  -- the meetings in traces of which the first has this index
  abbrev pub meetings_from : N → N → ℕ → List A → List Meeting
  meetings_from a b index [] = []
  meetings_from a b index (t ∷ ts) =
      meetings_in a b index t ++ meetings_from a b (index + 1) ts

-- the index of the trace of the first of the meetings, of none 0
abbrev pub first_trace : List Meeting → ℕ
first_trace [] = 0
first_trace (m ∷ ms) = m.trace

-- the least of the numbers, and the greatest; of none 0
abbrev pub IsLeastOf : List ℤ → ℤ → Type 0
IsLeastOf [] n = n ≡ pos 0
IsLeastOf (x ∷ xs) n = Contains (x ∷ xs) n × All (λ y. n ≤ℤ y) (x ∷ xs)

abbrev pub IsGreatestOf : List ℤ → ℤ → Type 0
IsGreatestOf [] n = n ≡ pos 0
IsGreatestOf (x ∷ xs) n = Contains (x ∷ xs) n × All (λ y. y ≤ℤ n) (x ∷ xs)

-- the figures of meetings
pub record AreMeetingFigures (meetings : List Meeting) (f : Between) : Type 0 where
  pub traces : f.traces ≡ length meetings
  pub early : f.early ≡ count_by is_early meetings
  pub turned : f.turned ≡ count_by is_turned meetings
  pub both : f.both ≡ count_by is_both meetings
  pub first_early : f.first_early ≡ first_trace (filter is_early meetings)
  pub first_both : f.first_both ≡ first_trace (filter is_both meetings)
  pub least : IsLeastOf (map (λ m. m.gap) meetings) f.least
  pub greatest : IsGreatestOf (map (λ m. m.gap) meetings) f.greatest
  pub nearest : IsLeastOf (map distance meetings) f.nearest
