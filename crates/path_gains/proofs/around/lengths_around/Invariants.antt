use Rattle.std.proofs.Common.{ℕ, ◌<◌, map, length}
use Rattle.path_gains.specs.inner.Around.{IsAroundBelow}
use Rattle.path_gains.specs.inner.Spans.{HaveRoom, shown_at}
use Rattle.weighted_dag.specs.Graphs.{order_of}
use Rattle.path_gains.proofs.around.lengths_around.Given as goal

abbrev pub invariant-vertices : goal.invariant-vertices
invariant-vertices g l =
    record {
      room : HaveRoom (order_of l.dag) (length l.blocks.items);
      around : (v : ℕ) → v < order_of l.dag → IsAroundBelow l.dag (map g.L.Length.value l.into) (map g.L.Length.value l.from) l.vertex v (shown_at (order_of l.dag) (map g.L.Length.value l.blocks.items) v);
    }
