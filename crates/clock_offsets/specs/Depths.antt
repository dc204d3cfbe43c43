-- How far a machine is from the reference, counted in pairings.
use Rattle.std.specs.Prelude.{ℕ, zero, suc, ◌≤◌, List}
use Rattle.trace_types.specs.declared.event.Event.{Event}
use Rattle.clock_offsets.specs.Machines.{IsReference}
use Rattle.clock_offsets.specs.Messages.{ArePaired}

-- a path of k pairings goes from the reference to the machine m
abbrev pub IsReachedIn : List Event → ℕ → List ℕ → Type 0
IsReachedIn events zero m = IsReference events m
IsReachedIn events (suc k) m = (n : List ℕ) × IsReachedIn events k n × ArePaired events n m

-- m has depth k: no shorter path goes to it
abbrev pub HasDepth : List Event → ℕ → List ℕ → Type 0
HasDepth events k m = IsReachedIn events k m × ((j : ℕ) → IsReachedIn events j m → k ≤ j)

-- no path of pairings goes to m
abbrev pub IsUnreachable : List Event → List ℕ → Type 0
IsUnreachable events m = (k : ℕ) → IsReachedIn events k m → ⊥
