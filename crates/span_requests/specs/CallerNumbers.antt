-- Callers by number.
use Rattle.std.specs.Prelude.{ℕ, zero, suc, ◌≡◌, ◌≢◌, ◌<◌, List, All, Contains, Option, Some, None, length, slice_index_or}
use Rattle.std.specs.List.{AllPairs}
use Rattle.std.specs.Option.{option_and_then}

-- the number of the caller so many calls above, by the numbers of callers
abbrev pub number_above : List (Option ℕ) → ℕ → ℕ → Option ℕ
number_above callers zero k = Some k
number_above callers (suc n) k =
    option_and_then (number_above callers n) (slice_index_or callers k None)

-- callers are spans
abbrev pub AreCallers : List (Option ℕ) → Type 0
AreCallers callers =
    (k c : ℕ) → slice_index_or callers k None ≡ Some c → c < length callers

-- callers come to an end: no span has one as many calls above it as there are spans
abbrev pub HaveLastCallers : List (Option ℕ) → Type 0
HaveLastCallers callers =
    (k : ℕ) → k < length callers → number_above callers (length callers) k ≡ None

-- these are the spans that no span calls, each once
pub record AreRoots (callers : List (Option ℕ)) (entries : List ℕ) : Type 0 where
  pub first : All (λ e. slice_index_or callers e None ≡ None) entries
  pub apart : AllPairs (λ d e. d ≢ e) entries
  pub all : (e : ℕ) → e < length callers → slice_index_or callers e None ≡ None
      → Contains entries e
