-- Which traces are slow: the last of them by latency, one in twenty. This is the project's own.
-- Latencies are in nanoseconds.
use Rattle.std.specs.Prelude.{◌≡◌, ℕ, ◌+◌, ◌*◌, ◌/◌, ◌≤◌, ◌==◌, nat_lt, Bool, not, ◌&&◌, ◌||◌}
use Rattle.std.specs.Prelude.{List, [], ◌∷◌, length, map, filter, count_by, All, Contains}
use Rattle.std.specs.List.{enumerate_from, zip}

-- how many of so many traces are slow: one in twenty, rounded up
abbrev pub slow_count : ℕ → ℕ
slow_count traces = (5 * traces + 99) / 100

-- each latency with its index
abbrev pub with_indices : List ℕ → List (ℕ × ℕ)
with_indices latencies = map (λ x. (x.1, x.0)) (enumerate_from 0 latencies)

-- of two latencies with their indices the second comes after the first: it is greater, or they are
-- equal and its index is greater
abbrev pub comes_after : ℕ × ℕ → ℕ × ℕ → Bool
comes_after x y = nat_lt x.0 y.0 || ((x.0 == y.0) && nat_lt x.1 y.1)

-- whether a trace with this latency and index is slow among traces with these latencies: fewer
-- come after it than there are slow ones
abbrev pub is_slow : List ℕ → ℕ × ℕ → Bool
is_slow latencies x =
    nat_lt (count_by (comes_after x) (with_indices latencies)) (slow_count (length latencies))

-- whether each trace is slow, by the traces' latencies, in order
abbrev pub slow_marks : List ℕ → List Bool
slow_marks latencies = map (is_slow latencies) (with_indices latencies)

-- the elements that are marked, and those that are not, in order
abbrev pub marked : {X : Type 0} → List Bool → List X → List X
marked marks xs = map (λ x. x.1) (filter (λ x. x.0) (zip marks xs))

abbrev pub unmarked : {X : Type 0} → List Bool → List X → List X
unmarked marks xs = map (λ x. x.1) (filter (λ x. not x.0) (zip marks xs))

-- of a list with an element for each trace those of the slow traces, and those of the rest
abbrev pub slow_of : {X : Type 0} → List ℕ → List X → List X
slow_of latencies xs = marked (slow_marks latencies) xs

abbrev pub rest_of : {X : Type 0} → List ℕ → List X → List X
rest_of latencies xs = unmarked (slow_marks latencies) xs

-- the least member
pub record IsLeast (numbers : List ℕ) (m : ℕ) : Type 0 where
  pub member : Contains numbers m
  pub none_less : All (λ n. m ≤ n) numbers

-- the least latency of the slow traces, of none 0
abbrev pub IsFloor : List ℕ → ℕ → Type 0
IsFloor [] m = m ≡ 0
IsFloor (n ∷ ns) m = IsLeast (n ∷ ns) m
