use Rattle.std.proofs.Common.{◌≡◌, Bor, List, ℕ, map, take}
use Rattle.span_names.specs.Names.{base_of, most_of_event}
use Rattle.context_names.proofs.machines.machine_bases.Given as goal

-- the bases of the machines so far
abbrev pub invariant-loop-machine : goal.invariant-loop-machine
invariant-loop-machine l = l.bases.items ≡ map (λ (m : Bor (List ℕ)). base_of most_of_event m.now) (take l.machine-index l.machines)
