use Rattle.std.proofs.Common.{◌≡◌, map, take}
use Rattle.call_contexts.specs.declared.context.Context.{Context}
use Rattle.call_contexts.proofs.order.list_above.Given as goal

-- those above the contexts so far
abbrev pub invariant-loop-context : goal.invariant-loop-context
invariant-loop-context l = l.above.items ≡ map (λ (x : Context). x.above) (take l.context-index l.contexts)
