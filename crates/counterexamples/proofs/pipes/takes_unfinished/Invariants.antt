use Rattle.std.proofs.Common.{◌<◌, ℕ}
use Rattle.counterexamples.specs.inner.Ends.{TakesEarlyAt}
use Rattle.counterexamples.proofs.pipes.takes_unfinished.Given as goal

abbrev pub invariant-segments : goal.invariant-segments
invariant-segments l = (k : ℕ) → k < l.index → TakesEarlyAt l.trace l.from l.to k → ⊥
