-- The keys by which events are sorted, and the pairs of adjacent keys.
use Rattle.std.specs.Prelude.{◌≡◌, ◌⊎◌, ◌==◌, if◌then◌else◌, ℕ, ◌<◌, ℤ, pos, ◌<ℤ◌, List, []}
use Rattle.std.specs.Prelude.{◌∷◌, ◌++◌, length, map, slice_index_or}
use Rattle.segment_cut.specs.AdjustedTimes.{adjusted_at}

-- the key of an event: the index of its task's first event, its adjusted time and its index
abbrev pub Key : Type 0
Key = ℕ × ℤ × ℕ

-- a key before all that are made
abbrev pub no_key : Key
no_key = (0, pos 0, 0)

-- the key at an index of the order
abbrev pub key_at : List Key → ℕ → Key
key_at keys p = slice_index_or keys p no_key

-- the adjusted time in each key
abbrev pub key_times : List Key → List ℤ
key_times keys = map (λ (k : Key). k.1) keys

-- the key at an index is that of the event with this index, whose task has this first event
pub record AreInLineOrder (tasks : List ℕ) (keys : List Key) : Type 0 where
  pub each : length keys ≡ length tasks
  pub task : (p : ℕ) → p < length keys → (key_at keys p).0 ≡ slice_index_or tasks p 0
  pub place : (p : ℕ) → p < length keys → (key_at keys p).2 ≡ p

-- the times are those in the keys of the events
abbrev pub HaveTimes : List Key → List ℤ → Type 0
HaveTimes keys times = (p : ℕ) → p < length keys
    → adjusted_at times (key_at keys p).2 ≡ (key_at keys p).1

-- one key is before another
abbrev pub IsKeyBefore : Key → Key → Type 0
IsKeyBefore a b = (a.0 < b.0) ⊎ ((a.0 ≡ b.0) × ((a.1 <ℤ b.1) ⊎ ((a.1 ≡ b.1) × (a.2 < b.2))))

-- the keys are those of all events, in order
pub record AreKeys (tasks : List ℕ) (times : List ℤ) (keys : List Key) : Type 0 where
  pub right : (p : ℕ) → p < length keys
      → (slice_index_or tasks (key_at keys p).2 0 ≡ (key_at keys p).0)
      × (adjusted_at times (key_at keys p).2 ≡ (key_at keys p).1)
      × ((key_at keys p).2 < length tasks)
  pub all : (k : ℕ) → k < length tasks → (p : ℕ) × (p < length keys) × ((key_at keys p).2 ≡ k)
  pub each : length keys ≡ length tasks
  pub rising : (p q : ℕ) → p < q → q < length keys → IsKeyBefore (key_at keys p) (key_at keys q)

-- the events of a key and of each later one, where the two stand side by side and are of one task
abbrev pub pairs_from : Key → List Key → List (ℕ × ℕ)
pairs_from a [] = []
pairs_from a (b ∷ rest) = (if a.0 == b.0 then (a.2, b.2) ∷ [] else []) ++ pairs_from b rest

-- the events of each two adjacent keys of one task, in order
abbrev pub adjacent_pairs : List Key → List (ℕ × ℕ)
adjacent_pairs [] = []
adjacent_pairs (a ∷ rest) = pairs_from a rest
