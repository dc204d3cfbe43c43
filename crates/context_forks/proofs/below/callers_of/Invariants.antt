use Rattle.std.proofs.Common.{◌≡◌, map, take}
use Rattle.span_calls.specs.declared.call.Call.{Call}
use Rattle.context_forks.proofs.below.callers_of.Given as goal

-- the callers of the calls so far
abbrev pub invariant-loop-call : goal.invariant-loop-call
invariant-loop-call l = l.callers.items ≡ map (λ (c : Call). c.caller) (take l.call-index l.calls)
