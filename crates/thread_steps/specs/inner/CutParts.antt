-- Parts, by their first calls and those that end last.
use Rattle.std.specs.Prelude.{ℕ, ◌&&◌, List, [], ◌∷◌, Bool, nat_lt}
use Rattle.span_calls.specs.declared.call.Call.{Call}
use Rattle.context_forks.specs.Partners.{end_of, last_after, later_of, start_of}
use Rattle.thread_steps.specs.Parts.{Grouping, fork_together}
use Rattle.thread_steps.specs.declared.parts.Part.{Part}

module _ (calls : List Call) where
  -- a part of these calls
  abbrev pub part_of : List ℕ → Part
  part_of [] = record { first = 0; last = 0 }
  part_of (i ∷ more) = record { first = i; last = last_after calls i more }

  -- a part with one more call
  abbrev pub part_with : Part → ℕ → Part
  part_with part i = record { first = part.first; last = later_of calls part.last i }

  -- a part goes on with a call
  abbrev pub goes_on : Grouping → Part → ℕ → Bool
  goes_on grouping part i =
      fork_together grouping part.first i && nat_lt (start_of calls i) (end_of calls part.last)
