-- The names, the tasks and the traces of all tables of a list.
use Rattle.std.specs.Prelude.{ℕ, ◌+◌, List, [], ◌∷◌, map}
use Rattle.std.specs.List.{flat_map}
use Rattle.trace_types.specs.Segments.{SegmentName}
use Rattle.digest_facts.specs.Tables.{Table}

-- the names of all, one table after another
abbrev pub all_names : List (Table SegmentName (List ℕ)) → List SegmentName
all_names us = flat_map (λ u. map (λ r. r.0) u.names) us

-- the tasks of all, one table after another
abbrev pub all_tasks : List (Table SegmentName (List ℕ)) → List (List ℕ)
all_tasks us = flat_map (λ u. map (λ r. r.0) u.tasks) us

-- how many traces all have
abbrev pub all_counts : List (Table SegmentName (List ℕ)) → ℕ
all_counts [] = 0
all_counts (u ∷ us) = u.traces + all_counts us
