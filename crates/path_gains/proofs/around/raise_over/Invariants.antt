use Rattle.std.proofs.Common.{ℕ, ◌<◌, map, take, length}
use Rattle.path_gains.specs.inner.Around.{IsRaisedOver}
use Rattle.path_gains.specs.inner.Spans.{shown_at}
use Rattle.path_gains.proofs.around.raise_over.Given as goal

abbrev pub invariant-indices : goal.invariant-indices
invariant-indices g l =
    (v : ℕ) → v < length l.from → IsRaisedOver (take l.index-index l.indices) (map g.L.Length.value l.from) l.low (g.L.Length.value l.until) v (shown_at (length l.from) (map g.L.Length.value l.fn.blocks) v) (shown_at (length l.from) (map g.L.Length.value l.blocks) v)
