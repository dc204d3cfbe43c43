use Rattle.std.proofs.Common.{◌≡◌, map, take}
use Rattle.call_contexts.specs.Contexts.{like_of}
use Rattle.call_contexts.specs.inner.LikeKeys.{likes_of_keys}
use Rattle.call_contexts.proofs.contexts.like_ordinals.Given as goal

-- the keys of the calls so far
abbrev pub invariant-loop-call : goal.invariant-loop-call
invariant-loop-call l = likes_of_keys l.keys.items ≡ map like_of (take l.call-index l.calls)
