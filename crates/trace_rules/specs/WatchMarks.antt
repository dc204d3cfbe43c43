-- After which of its traces a worker takes a watch number.
use Rattle.std.specs.Prelude.{ℕ, ◌+◌, ◌%◌, Bool, not, ◌&&◌, ◌==◌, List, [], ◌∷◌, ◌++◌, length, map}
use Rattle.std.specs.List.{filter, range_with_len}

-- the number is a multiple of this one, which is not 0
abbrev pub is_multiple : ℕ → ℕ → Bool
is_multiple every n = not (every == 0) && (n % every == 0)

-- after how many of its traces a worker with so many takes a number
abbrev pub watch_counts : ℕ → ℕ → List ℕ
watch_counts every traces = filter (is_multiple every) (range_with_len 1 traces)

-- which lines workers with these shares write, of whom this one is the first: by worker, and then
-- by how many of its traces it had offered
abbrev pub watch_marks : {T : Type 0} → ℕ → ℕ → List (List T) → List (ℕ × ℕ)
watch_marks every worker [] = []
watch_marks every worker (share ∷ shares) =
    map (λ (n : ℕ). (worker, n)) (watch_counts every (length share))
    ++ watch_marks every (worker + 1) shares
