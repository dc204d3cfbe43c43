use Rattle.std.proofs.Common.{◌<◌, ℕ}
use Rattle.counterexamples.specs.inner.Ends.{SharesAt}
use Rattle.counterexamples.proofs.pipes.refutes_unshared.Given as goal

abbrev pub invariant-segments : goal.invariant-segments
invariant-segments l = (k : ℕ) → k < l.index → SharesAt l.trace l.low l.high k → ⊥
