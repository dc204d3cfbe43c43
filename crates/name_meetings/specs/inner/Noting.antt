-- How sixteen rows of entries grow, meeting by meeting.
use Rattle.std.specs.Prelude.{◌≡◌, ◌≢◌, ℕ, ◌*◌, ◌<◌, ◌≤◌, ◌==◌, ℤ, ◌&&◌, List, [], ◌∷◌, ◌++◌}
use Rattle.std.specs.Prelude.{All, length, flat_map, if◌then◌else◌, map, replicate, slice_index_or}
use Rattle.evidence_rules.specs.Meetings.{AreMeetingFigures, meeting, meetings_from}
use Rattle.evidence_rules.specs.declared.between.Between.{Between}
use Rattle.evidence_rules.specs.declared.meeting.Meeting.{Meeting}
use Rattle.trace_types.specs.Parts.{by_number}
use Rattle.trace_types.specs.declared.named_segment.NamedSegment.{NamedSegment}
use Rattle.trace_types.specs.declared.named_trace.NamedTrace.{NamedTrace}
use Rattle.name_meetings.specs.Tables.{no_figures}
use Rattle.name_meetings.specs.inner.Circles.{HasEntry, place, width}
use Rattle.name_meetings.specs.inner.Pairs.{onward_of, turned_of}
use Rattle.name_meetings.specs.declared.pair_figures.PairFigures.{PairFigures}

-- all names of the segments are below this number
abbrev pub AreBelow : ℕ → List NamedSegment → Type 0
AreBelow names segments = All (λ (s : NamedSegment). s.name < names) segments

-- both times of the segment pass the test
pub record IsTimed (fits : ℤ → Type 0) (s : NamedSegment) : Type 0 where
  pub start : fits s.start
  pub end : fits s.end

-- those of all segments do
abbrev pub AreTimed : (ℤ → Type 0) → List NamedSegment → Type 0
AreTimed fits segments = All (IsTimed fits) segments

-- the figures at a place
abbrev pub entry : List Between → ℕ → Between
entry figures at = slice_index_or figures at no_figures

-- the meetings of each two names
abbrev pub Meetings : Type 0
Meetings = ℕ → ℕ → List Meeting

-- these meetings and others
abbrev pub and_then : Meetings → Meetings → Meetings
and_then met more a b = met a b ++ more a b

-- the meeting of two segments of a trace, and that of the second and the first
abbrev pub onward_meeting : ℕ → NamedTrace → NamedSegment → NamedSegment → Meeting
onward_meeting index trace s t = meeting by_number index trace s t

abbrev pub turned_meeting : ℕ → NamedTrace → NamedSegment → NamedSegment → Meeting
turned_meeting index trace s t = meeting by_number index trace t s

-- what two segments add to the meetings, a meeting being made so
abbrev pub one_meeting : (NamedSegment → NamedSegment → Meeting) → NamedSegment → NamedSegment
    → Meetings
one_meeting make s t a b = if (s.name == a) && (t.name == b) then make s t ∷ [] else []

-- the meetings of one segment with others
abbrev pub meetings_with : (NamedSegment → NamedSegment → Meeting) → NamedSegment
    → List NamedSegment → Meetings
meetings_with make s others a b = flat_map (λ (t : NamedSegment). one_meeting make s t a b) others

-- the meetings of some segments with all of these
abbrev pub meetings_among : (NamedSegment → NamedSegment → Meeting) → List NamedSegment
    → List NamedSegment → Meetings
meetings_among make ones others a b =
    flat_map (λ (s : NamedSegment). meetings_with make s others a b) ones

-- the meetings of each two names in traces, and of each two turned round
abbrev pub met_onward : List NamedTrace → Meetings
met_onward traces a b = meetings_from by_number (λ m n. m == n) a b 0 traces

abbrev pub met_turned : List NamedTrace → Meetings
met_turned traces a b = meetings_from by_number (λ m n. m == n) b a 0 traces

-- the entries of sixteen rows are the figures of these meetings
pub record Tells (names first : ℕ) (figures : List Between) (met : Meetings) : Type 0 where
  pub long : length figures ≡ width names * 16
  pub each : (a b : ℕ) → HasEntry names first a b
      → AreMeetingFigures (met a b) (entry figures (place names first a b))

-- the entries have at most so many meetings
abbrev pub AreAtMost : ℕ → ℕ → List Between → ℕ → Type 0
AreAtMost names first figures most = (a b : ℕ) → HasEntry names first a b
    → (entry figures (place names first a b)).traces ≤ most

-- the entries of one row have at most so many meetings
abbrev pub IsRowAtMost : ℕ → ℕ → ℕ → List Between → ℕ → Type 0
IsRowAtMost names first a figures most = (b : ℕ) → HasEntry names first a b
    → (entry figures (place names first a b)).traces ≤ most

-- the entries of all other rows are what they were
abbrev pub IsRowAlone : ℕ → ℕ → ℕ → List Between → List Between → Type 0
IsRowAlone names first one old new = (a b : ℕ) → HasEntry names first a b → a ≢ one
    → entry new (place names first a b) ≡ entry old (place names first a b)

module _ {G : Type 0} (value : G → ℤ) where
  -- the figures of the entries, and those with each two turned round
  abbrev pub onwards : List (PairFigures G) → List Between
  onwards figures = map (onward_of value) figures

  abbrev pub turneds : List (PairFigures G) → List Between
  turneds figures = map (turned_of value) figures

  -- the entries of sixteen rows are the figures of these meetings, in either order
  pub record TellsBoth (names first : ℕ) (figures : List (PairFigures G))
      (met back : Meetings) : Type 0 where
    pub onward : Tells names first (onwards figures) met
    pub turned : Tells names first (turneds figures) back

  -- the entries are the figures of some meetings
  pub record TellsSome (names first : ℕ) (figures : List (PairFigures G)) : Type 0 where
    pub met : Meetings
    pub back : Meetings
    pub told : TellsBoth names first figures met back

  -- sixteen rows without a meeting
  pub record AreNew (names : ℕ) (figures : List (PairFigures G)) : Type 0 where
    pub onward : onwards figures ≡ replicate (width names * 16) no_figures
    pub turned : turneds figures ≡ replicate (width names * 16) no_figures
