use Rattle.std.proofs.Common.{◌≡◌, take}
use Rattle.span_calls.proofs.calls.as_indexes.Given as goal

abbrev pub invariant-loop-number : goal.invariant-loop-number
invariant-loop-number l = l.indexes.items ≡ take l.number-index l.numbers
