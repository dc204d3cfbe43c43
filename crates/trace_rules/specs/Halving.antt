-- Which traces each of several workers takes, by halving.
use Rattle.std.specs.Prelude.{ℕ, zero, suc, ◌-◌, ◌*◌, ◌/◌, true, false, nat_lt, List, [], ◌∷◌, ◌++◌}
use Rattle.std.specs.Prelude.{length, take, drop, slice_index_or}

-- of so many traces among so many workers: how many the first half of the workers, rounded down,
-- takes
abbrev pub first_part : ℕ → ℕ → ℕ
first_part traces workers = traces * (workers / 2) / workers

-- what each worker of a block takes: one worker takes all; of more, the first half of them takes
-- its part from the front, and the others the rest. Each halving is one round, and no block of so
-- many workers needs more rounds than that
unfoldable pub halving : {T : Type 0} → ℕ → ℕ → List T → List (List T)
halving zero workers traces = traces ∷ []
halving (suc rounds) workers traces = elim (nat_lt 1 workers) [
  | true ↦
      halving rounds (workers / 2) (take (first_part (length traces) workers) traces)
      ++ halving rounds (workers - workers / 2) (drop (first_part (length traces) workers) traces)
  | false ↦ traces ∷ []
]

-- what each of so many workers takes of the traces, in their order
abbrev pub shares_of : {T : Type 0} → List T → ℕ → List (List T)
shares_of traces workers = halving workers workers traces

-- the share with this number, counted from 0
abbrev pub share_at : {T : Type 0} → List (List T) → ℕ → List T
share_at shares worker = slice_index_or shares worker []

-- what the worker with this number takes, counted from 0
abbrev pub share_of : {T : Type 0} → List T → ℕ → ℕ → List T
share_of traces workers worker = share_at (shares_of traces workers) worker
