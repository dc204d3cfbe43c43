use Rattle.std.proofs.Common.{◌≡◌, ◌++◌, take}
use Rattle.context_names.specs.Pieces.{forked_among}
use Rattle.context_names.proofs.pieces.push_forked.Given as goal

-- the forked ones of the contexts so far stand behind the others
abbrev pub invariant-loop-number : goal.invariant-loop-number
invariant-loop-number l = l.list.items ≡ l.initial.list.items ++ forked_among l.forked (take l.number-index l.numbers)
