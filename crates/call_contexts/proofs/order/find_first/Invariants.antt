use Rattle.std.proofs.Common.{◌≡◌, take}
use Rattle.call_contexts.specs.ContextOrder.{first_of}
use Rattle.call_contexts.proofs.order.find_first.Given as goal

-- those of the contexts so far that have none above them
abbrev pub invariant-loop-number : goal.invariant-loop-number
invariant-loop-number l = l.first.items ≡ first_of l.above (take l.number-index l.order)
