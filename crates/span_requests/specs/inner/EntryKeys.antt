-- Keys of entries, by which requests are ordered.
use Rattle.std.specs.Prelude.{ℕ, ◌≡◌, List, Some, None, is_none, is_some, filter, map, Option}
use Rattle.std.specs.Prelude.{slice_get, slice_index_or, All}
use Rattle.std.specs.List.{range_with_len}
use Rattle.span_types.specs.declared.span.Span.{Span}
use Rattle.span_requests.specs.Callers.{is_consumer}
use Rattle.span_requests.specs.Entries.{first_sight}
use Rattle.span_requests.specs.declared.entry_key.EntryKey.{EntryKey}

-- the key is that of a span
pub record IsKeyOf (spans : List Span) (s : Span) (key : EntryKey) : Type 0 where
  pub sight : key.first_sight ≡ first_sight spans s.trace
  pub consumer : key.consumer ≡ is_consumer s.kind
  pub parented : key.parented ≡ is_some s.parent
  pub start : key.start ≡ s.start
  pub id : key.id.now ≡ s.id

-- keys are those of the spans at their indexes
abbrev pub AreKeys : List Span → List EntryKey → Type 0
AreKeys spans keys = All (λ (key : EntryKey).
    (s : Span) → slice_get spans key.index ≡ Some s → IsKeyOf spans s key) keys

-- the indexes of keys
abbrev pub indexes_of : List EntryKey → List ℕ
indexes_of keys = map (λ (key : EntryKey). key.index) keys

-- the numbers below a bound of spans without a caller
abbrev pub entry_numbers : List (Option ℕ) → ℕ → List ℕ
entry_numbers callers bound =
    filter (λ i. is_none (slice_index_or callers i None)) (range_with_len 0 bound)
