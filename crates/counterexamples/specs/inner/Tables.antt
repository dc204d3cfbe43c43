-- What words note, and how it changes from one kept trace to the next.
use Rattle.std.specs.Prelude.{◌≡◌, ℕ, ◌==◌, ◌<◌, if◌then◌else◌, List, length, map, MatchOption}
use Rattle.std.specs.Prelude.{Option, Some, None, option_and_then, slice_get, slice_index_or}
use Rattle.std.specs.Int.{bit_at}
use Rattle.std.specs.List.{range_with_len}
use Rattle.std.specs.Option.{option_or}
use Rattle.day_partitions.specs.Books.{BookState, KeptDay}
use Rattle.hypothesis_index.specs.Places.{IsRelation, NamesBelow, place_of, width_of}
use Rattle.hypothesis_index.specs.Refuting.{Refutes}
use Rattle.hypothesis_index.specs.declared.relation.Relation.{Relation}
use Rattle.trace_types.specs.declared.named_trace.NamedTrace.{NamedTrace}
use Rattle.word_rows.specs.Rows.{clears}
use Rattle.word_rows.specs.declared.entries.Entry.{Entry}
use Rattle.counterexamples.specs.Findings.{IsFirstRefuter, StandsAt, StandsBefore}
use Rattle.counterexamples.specs.FirstRefuters.{FindingTable}
use Rattle.counterexamples.specs.declared.finding.Finding.{Finding}
use Rattle.counterexamples.specs.declared.word_refuters.WordRefuters.{WordRefuters}

-- the finding at an index
abbrev pub finding_at : List Finding → ℕ → Finding
finding_at findings bit = slice_index_or findings bit (record { place = 0; index = 0 })

-- the finding that a word notes for a bit; none where the bit is left
abbrev pub noted : WordRefuters → ℕ → Option Finding
noted w bit = if bit_at w.left bit == 1 then None else Some (finding_at w.findings bit)

-- the finding that the words note for a bit of a word
abbrev pub noted_at : List WordRefuters → ℕ → ℕ → Option Finding
noted_at words word bit = option_and_then (λ w. noted w bit) (slice_get words word)

-- what a word notes for each of its 64 bits
unfoldable pub noted_bits : WordRefuters → List (Option Finding)
noted_bits w = map (noted w) (range_with_len 0 64)

-- what words note, as a table
abbrev pub table_of : List WordRefuters → FindingTable
table_of words = map noted_bits words

-- the findings of these bits are this one, and the others are what they were
pub record AreChosen (old : List Finding) (bits : ℕ) (f : Finding) (new : List Finding) : Type 0
  where
    pub long : length new ≡ length old
    pub each : (b : ℕ) → b < 64
        → finding_at new b ≡ (if bit_at bits b == 1 then f else finding_at old b)

-- the finding is noted for each bit that the row clears and that had none
pub record AreNoted (old : List WordRefuters) (row : List Entry) (f : Finding)
    (new : List WordRefuters) : Type 0 where
  pub long : length new ≡ length old
  pub each : (i b : ℕ) → i < length old → b < 64 → noted_at new i b
      ≡ (if clears row i b then option_or (noted_at old i b) (Some f) else noted_at old i b)

-- no kept trace that stands before this place and index refutes the relation
abbrev pub SurvivesBefore : List KeptDay → Relation → ℕ → ℕ → Type 0
SurvivesBefore days r place index = (g : Finding) (t : NamedTrace) → StandsAt days g t
    → StandsBefore g (record { place = place; index = index }) → Refutes r t → ⊥

-- the words note the first refuters among the kept traces before this place and index
pub record AreFirstBefore (b : BookState) (words : List WordRefuters) (place index : ℕ)
    : Type 0 where
  pub width : length words ≡ width_of b.names
  pub each : (r : Relation) → IsRelation r → NamesBelow b.names r
      → MatchOption (noted_at words (place_of r).word (place_of r).bit)
      (SurvivesBefore b.days r place index) (IsFirstRefuter b.days r)

-- a kept trace stands there
abbrev pub IsTraceAt : List KeptDay → Finding → Type 0
IsTraceAt days f = (t : NamedTrace) × StandsAt days f t
