use Rattle.std.proofs.Common.{◌≡◌}
use Rattle.call_contexts.specs.Contexts.{frames_of}
use Rattle.call_contexts.specs.inner.Numbering.{AreSoFar}
use Rattle.call_contexts.proofs.contexts.number_contexts.Given as goal

-- the contexts of the calls so far
abbrev pub invariant-loop-at : goal.invariant-loop-at
invariant-loop-at l = record {
  found : AreSoFar l.calls l.ordinals l.at l.numbers.items (frames_of l.seen.keys);
  same : frames_of l.contexts.items ≡ frames_of l.seen.keys;
}
