-- How long segments last, and on how many paths a name is. Durations are in nanoseconds.
use Rattle.std.specs.Prelude.{ℕ, ◌-ℤ◌, unsigned_abs, Bool, List, map, filter, sum, sum_by, count_by}
use Rattle.std.specs.List.{list_any}
use Rattle.trace_types.specs.Parts.{Parts}

module _ {A S N T E : Type 0} (p : Parts A S N T E) where
  -- how long a segment lasts
  abbrev pub duration : S → ℕ
  duration s = unsigned_abs (p.end s -ℤ p.start s)

  -- how long the segments of a path last together
  abbrev pub path_length : List S → ℕ
  path_length path = sum_by duration path

  -- how long each segment with this name lasts; `same` tells whether two names are one
  abbrev pub durations_of : (N → N → Bool) → N → List S → List ℕ
  durations_of same name segments = map duration (filter (λ s. same (p.name s) name) segments)

  -- whether a segment of the path has this name
  abbrev pub has_name : (N → N → Bool) → N → List S → Bool
  has_name same name path = list_any (λ s. same (p.name s) name) path

  -- how many of the paths have a segment with this name
  abbrev pub paths_with : (N → N → Bool) → N → List (List S) → ℕ
  paths_with same name paths = count_by (has_name same name) paths

  -- how long these segments last together
  abbrev pub time_on : (N → N → Bool) → N → List (List S) → ℕ
  time_on same name paths = sum_by (λ path. sum (durations_of same name path)) paths
