-- The keys by which segments are sorted.
use Rattle.std.specs.Prelude.{◌≡◌, ◌⊎◌, ℕ, ◌<◌, ℤ, pos, ◌<ℤ◌, List, length, slice_get, Some}
use Rattle.std.specs.Prelude.{slice_index_or, unwrap_or, unsigned_abs, ◌-ℤ◌}
use Rattle.std.specs.Option.{option_map}
use Rattle.trace_types.specs.NamedSegments.{number_of_name}
use Rattle.trace_types.specs.declared.named_segment.NamedSegment.{NamedSegment}

-- the key of a segment: its start, its end and its index
abbrev pub Key : Type 0
Key = ℤ × ℤ × ℕ

-- a key that belongs to no segment
abbrev pub no_key : Key
no_key = (pos 0, pos 0, 0)

-- the key of the vertex with this number
abbrev pub key_at : List Key → ℕ → Key
key_at keys v = slice_index_or keys v no_key

-- one key is before another
abbrev pub IsKeyBefore : Key → Key → Type 0
IsKeyBefore a b = (a.0 <ℤ b.0) ⊎ ((a.0 ≡ b.0) × ((a.1 <ℤ b.1) ⊎ ((a.1 ≡ b.1) × (a.2 < b.2))))

-- it is the key of some segment of the list
abbrev pub IsKeyOf : List NamedSegment → Key → Type 0
IsKeyOf segments key = (s : NamedSegment) × (slice_get segments key.2 ≡ Some s)
    × (key.0 ≡ s.start) × (key.1 ≡ s.end)

-- the keys are those of all segments, in order
pub record AreKeys (segments : List NamedSegment) (keys : List Key) : Type 0 where
  pub each : length keys ≡ length segments
  pub right : (v : ℕ) → v < length keys → IsKeyOf segments (key_at keys v)
  pub all : (i : ℕ) → i < length segments → (v : ℕ) × (v < length keys) × ((key_at keys v).2 ≡ i)
  pub rising : (v w : ℕ) → v < w → w < length keys → IsKeyBefore (key_at keys v) (key_at keys w)

-- the index of the key's segment
abbrev pub index_in : Key → ℕ
index_in key = key.2

-- the duration of the key's segment, in nanoseconds
abbrev pub duration_of : Key → ℕ
duration_of key = unsigned_abs (key.1 -ℤ key.0)

-- the name of the key's segment
abbrev pub name_in : List NamedSegment → Key → ℕ
name_in segments key = unwrap_or (option_map number_of_name (slice_get segments key.2)) 0
