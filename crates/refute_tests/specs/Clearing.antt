-- Which bits a row of a trace clears.
use Rattle.std.specs.Prelude.{◌≡◌, ℕ, ◌<◌, pos, ◌+ℤ◌, int_lt, Bool, true, ◌&&◌, ◌==◌, ◌↔◌, ◌⊎◌, List}
use Rattle.std.specs.Prelude.{All}
use Rattle.hypothesis_index.specs.Places.{place_of}
use Rattle.hypothesis_index.specs.Refuting.{IsPlaceOfSome}
use Rattle.hypothesis_index.specs.declared.relation.Relation.{Relation}
use Rattle.trace_types.specs.declared.named_segment.NamedSegment.{NamedSegment}
use Rattle.trace_types.specs.declared.named_trace.NamedTrace.{NamedTrace}
use Rattle.word_rows.specs.declared.entries.Entry.{Entry}
use Rattle.word_rows.specs.Rows.{clears}

-- a bit is cleared exactly where it is the place of a relation with this property
abbrev pub ClearsExactly : List Entry → (Relation → Type 0) → Type 0
ClearsExactly row P = (i b : ℕ) → (clears row i b ≡ true) ↔ IsPlaceOfSome P i b

-- the new row clears what the old one does, and besides exactly the places of the relations with
-- this property
abbrev pub AddsExactly : List Entry → (Relation → Type 0) → List Entry → Type 0
AddsExactly old P new = (i b : ℕ) → (clears new i b ≡ true)
    ↔ ((clears old i b ≡ true) ⊎ IsPlaceOfSome P i b)

-- all names of the trace are below this number
abbrev pub HaveNamesBelow : ℕ → NamedTrace → Type 0
HaveNamesBelow n trace = All (λ (s : NamedSegment). s.name < n) trace.segments

-- the test of StartsEarly: t starts before s ends, by more than the grace
abbrev pub starts_early : ℕ → NamedSegment → NamedSegment → Bool
starts_early grace t s = int_lt (t.start +ℤ pos grace) s.end

-- this bit of this word is the place of the relation
abbrev pub is_at : Relation → ℕ → ℕ → Bool
is_at r i b = ((place_of r).word == i) && ((place_of r).bit == b)
