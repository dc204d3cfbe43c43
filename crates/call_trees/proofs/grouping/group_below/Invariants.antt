use Rattle.std.proofs.Common.{◌≡◌, take}
use Rattle.call_trees.specs.Below.{below_all}
use Rattle.call_trees.proofs.grouping.group_below.Given as goal

-- the numbers so far stand below theirs
abbrev pub invariant-loop-number : goal.invariant-loop-number
invariant-loop-number l = l.lists.items ≡ below_all l.above (take l.number-index l.order)
