use Rattle.std.proofs.Common.{ℕ, take, map}
use Rattle.slack.specs.inner.Passes.{RaisesAt}
use Rattle.path_gains.proofs.forward.raise_each.Given as goal

abbrev pub invariant-indices : goal.invariant-indices
invariant-indices g l = (k : ℕ) → RaisesAt (take l.index-index l.indices) (g.L.Length.value l.least) (map g.L.Length.value l.fn.numbers) (map g.L.Length.value l.numbers) k
