use Rattle.std.proofs.Common.{◌≡◌, ◌++◌, reverse, take}
use Rattle.call_trees.proofs.walking.push_reversed.Given as goal

-- the numbers so far, from the last one on, are on the stack
abbrev pub invariant-loop-at : goal.invariant-loop-at
invariant-loop-at l = l.stack.items ≡ l.initial.stack.items ++ take l.at (reverse l.numbers)
