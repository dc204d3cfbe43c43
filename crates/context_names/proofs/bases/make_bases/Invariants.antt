use Rattle.std.proofs.Common.{◌≡◌, map, take}
use Rattle.call_contexts.specs.Contexts.{frame_of}
use Rattle.call_contexts.specs.declared.context.Context.{Context}
use Rattle.context_names.specs.Bases.{base_within}
use Rattle.context_names.proofs.bases.make_bases.Given as goal

-- the bases of the contexts so far
abbrev pub invariant-loop-context : goal.invariant-loop-context
invariant-loop-context l = l.bases.items ≡ map (λ (x : Context). base_within l.most (frame_of x)) (take l.context-index l.contexts)
