use Rattle.std.proofs.Common.{◌≡◌, map, take}
use Rattle.call_contexts.specs.ContextOrder.{title_of}
use Rattle.call_contexts.specs.Contexts.{frame_of}
use Rattle.call_contexts.specs.inner.TitleKeys.{titles_of_keys}
use Rattle.call_contexts.specs.declared.context.Context.{Context}
use Rattle.call_contexts.proofs.order.title_keys.Given as goal

-- the keys of the contexts so far
abbrev pub invariant-loop-context : goal.invariant-loop-context
invariant-loop-context l = titles_of_keys l.keys.items ≡ map (λ (x : Context). title_of (frame_of x)) (take l.context-index l.contexts)
