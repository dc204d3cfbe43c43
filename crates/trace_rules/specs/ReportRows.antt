-- Figures of the segments with one name, over a list of traces and their critical paths. Times are
-- in nanoseconds.
use Rattle.std.specs.Prelude.{◌≡◌, ℕ, Bool, List}
use Rattle.trace_types.specs.Parts.{Parts, segments_of}
use Rattle.trace_rules.specs.declared.figures.Figures.{Figures}
use Rattle.trace_rules.specs.Durations.{durations_of, paths_with, time_on}
use Rattle.trace_rules.specs.Numbers.{AreFigures}

module _ {A S N T E : Type 0} (p : Parts A S N T E) (same : N → N → Bool) where
  -- of the traces' segments with this name the figures of their durations, and on how many of the
  -- critical paths there is one, and for how long; `same` tells whether two names are one
  pub record AreFiguresOf (traces : List A) (paths : List (List S)) (name : N) (f : Figures)
      (count time : ℕ) : Type 0 where
    pub figures : AreFigures (durations_of p same name (segments_of p traces)) f
    pub on_path : count ≡ paths_with p same name paths
    pub on_path_sum : time ≡ time_on p same name paths

  -- on how many of the slow traces' critical paths there is a segment with this name, and for how
  -- long, and the same of the rest; `same` tells whether two names are one
  pub record AreSlowAndRest (slow rest : List (List S)) (name : N)
      (slow_count slow_time rest_count rest_time : ℕ) : Type 0 where
    pub slow_on : slow_count ≡ paths_with p same name slow
    pub slow_sum : slow_time ≡ time_on p same name slow
    pub rest_on : rest_count ≡ paths_with p same name rest
    pub rest_sum : rest_time ≡ time_on p same name rest
