use Rattle.std.proofs.Common.{◌≡◌, map, get_or, pos, take}
use Rattle.clock_offsets.proofs.trace_offsets.spread_to_events.Given as goal

abbrev pub invariant-loop-number : goal.invariant-loop-number
invariant-loop-number l = l.each.items ≡ map (λ v. get_or l.offsets v (pos 0)) (take l.number-index l.numbers)
