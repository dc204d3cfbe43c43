use Rattle.std.proofs.Common.{◌≡◌, map, take}
use Rattle.std.specs.Prelude.{slice_index}
use Rattle.context_names.proofs.pieces.groups_at.Given as goal

-- the groups of the contexts so far
abbrev pub invariant-loop-number : goal.invariant-loop-number
invariant-loop-number l = l.found.items ≡ map (slice_index l.groups) (take l.number-index l.list)
