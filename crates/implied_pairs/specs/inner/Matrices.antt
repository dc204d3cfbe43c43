-- Which number reaches which, as a matrix by rows.
use Rattle.std.specs.Prelude.{◌≡◌, ◌↔◌, ℕ, ◌+◌, ◌*◌, ◌<◌, Bool, true, false, not, ◌&&◌, List}
use Rattle.std.specs.Prelude.{Contains, length, slice_index_or}
use Rattle.evidence_rules.specs.Reaching.{Reaches}

-- the entry of a row and a column
abbrev pub at : ℕ → List Bool → ℕ → ℕ → Bool
at count matrix a b = slice_index_or matrix (a * count + b) false

-- each number has itself
abbrev pub IsReflexive : ℕ → List Bool → Type 0
IsReflexive count matrix = (a : ℕ) → a < count → at count matrix a a ≡ true

-- it has each of the pairs
abbrev pub HasPairs : ℕ → List (ℕ × ℕ) → List Bool → Type 0
HasPairs count pairs matrix = (a b : ℕ) → Contains pairs (a, b) → at count matrix a b ≡ true

-- a chain of pairs leads wherever it says
abbrev pub IsSound : ℕ → List (ℕ × ℕ) → List Bool → Type 0
IsSound count pairs matrix = (a b : ℕ) → a < count → b < count → at count matrix a b ≡ true
    → Reaches pairs a b

-- it says exactly what reaches what
pub record IsMatrix (count : ℕ) (pairs : List (ℕ × ℕ)) (matrix : List Bool) : Type 0 where
  pub size : length matrix ≡ count * count
  pub each : (a b : ℕ) → a < count → b < count → (at count matrix a b ≡ true) ↔ Reaches pairs a b

-- a chain leads through this number, which is of another component than either
abbrev pub is_between : ℕ → List Bool → ℕ → ℕ → ℕ → Bool
is_between count matrix a b c =
    at count matrix a c && (at count matrix c b
    && (not (at count matrix c a) && not (at count matrix b c)))

-- it does through one below the count
abbrev pub HasBetween : ℕ → List Bool → ℕ → ℕ → Type 0
HasBetween count matrix a b = (c : ℕ) × (c < count) × (is_between count matrix a b c ≡ true)
