use Rattle.std.proofs.Common.{◌≡◌, ◌+◌, ◌++◌, drop, map, take}
use Rattle.context_names.proofs.pieces.add_one.Given as goal

-- the numbers so far are one more
abbrev pub invariant-loop-number : goal.invariant-loop-number
invariant-loop-number l = l.numbers ≡ map (λ n. n + 1) (take l.number-index l.initial.numbers) ++ drop l.number-index l.initial.numbers
