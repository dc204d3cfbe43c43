-- Which box reaches which, as a matrix by rows.
use Rattle.std.specs.Prelude.{◌≡◌, ◌↔◌, ℕ, ◌+◌, ◌*◌, ◌<◌, ◌==◌, ◌&&◌, ◌||◌, Bool, List, not}
use Rattle.std.specs.Prelude.{false, true, ◌≢◌, ◌⊎◌, AllPairs, Contains, length, slice_index_or}
use Rattle.std.specs.List.{list_any}
use Rattle.evidence_rules.specs.Reaching.{Reaches}

-- the entry of a row and a column
abbrev pub at : ℕ → List Bool → ℕ → ℕ → Bool
at count matrix a b = slice_index_or matrix (a * count + b) false

-- it says exactly what reaches what
pub record IsMatrix (count : ℕ) (pairs : List (ℕ × ℕ)) (matrix : List Bool) : Type 0 where
  pub size : length matrix ≡ count * count
  pub each : (a b : ℕ) → a < count → b < count → (at count matrix a b ≡ true) ↔ Reaches pairs a b

-- so many entries of a row stand behind those of the rows before it, and these are what they were
pub record HasRow (count : ℕ) (entry : ℕ → Bool) (old new : List Bool) : Type 0 where
  pub size : length new ≡ length old + count
  pub kept : (i : ℕ) → i < length old → slice_index_or new i false ≡ slice_index_or old i false
  pub each : (b : ℕ) → b < count → slice_index_or new (length old + b) false ≡ entry b

-- a chain leads from the one box to the other, and none back
abbrev pub is_above : ℕ → List Bool → ℕ → ℕ → Bool
is_above count matrix a b = at count matrix a b && not (at count matrix b a)

-- a matrix with these entries
pub record IsTable (count : ℕ) (entry : ℕ → ℕ → Bool) (matrix : List Bool) : Type 0 where
  pub size : length matrix ≡ count * count
  pub each : (a b : ℕ) → a < count → b < count → at count matrix a b ≡ entry a b

-- the pair is in the list
abbrev pub is_pair : List (ℕ × ℕ) → ℕ → ℕ → Bool
is_pair pairs a b = list_any (λ (pair : ℕ × ℕ). pair.0 == a && pair.1 == b) pairs

-- a box reaches itself, and what it has a relation to
abbrev pub starts : List (ℕ × ℕ) → ℕ → ℕ → Bool
starts pairs a b = a == b || is_pair pairs a b

-- a box reaches what it did, and what it does through another
abbrev pub passes : ℕ → List Bool → ℕ → ℕ → ℕ → Bool
passes count matrix through a b =
    at count matrix a b || (at count matrix a through && at count matrix through b)

-- a chain leads from the one box to another, and no relation does
abbrev pub is_joined : ℕ → List (ℕ × ℕ) → List Bool → ℕ → ℕ → Bool
is_joined count pairs matrix a b =
    not (a == b) && (at count matrix a b && not (is_pair pairs a b))

-- a pair of numbers stands before a place
abbrev pub StandsBefore : (row column : ℕ) → ℕ → ℕ → Type 0
StandsBefore row column a b = (a < row) ⊎ ((a ≡ row) × (b < column))

-- all joined pairs before a place, each once
pub record HasJoined (count : ℕ) (pairs : List (ℕ × ℕ)) (matrix : List Bool) (row column : ℕ)
    (joined : List (ℕ × ℕ)) : Type 0 where
  pub within : (a b : ℕ) → Contains joined (a, b)
      → (b < count) × StandsBefore row column a b × (is_joined count pairs matrix a b ≡ true)
  pub all : (a b : ℕ) → b < count → StandsBefore row column a b
      → is_joined count pairs matrix a b ≡ true → Contains joined (a, b)
  pub once : AllPairs (λ x y. x ≢ y) joined
