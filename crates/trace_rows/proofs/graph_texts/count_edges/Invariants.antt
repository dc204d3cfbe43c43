use Rattle.std.proofs.Common.{◌≡◌, ◌≤◌, ◌*◌, length, take}
use Rattle.std.specs.List.{flat_map, range_with_len}
use Rattle.weighted_dag.specs.Graphs.{order_of}
use Rattle.trace_rows.proofs.EdgeLemmas.{edges_from}
use Rattle.trace_rows.proofs.graph_texts.count_edges.Given as goal

-- the edges of the vertices so far
abbrev pub invariant-loop-vertex : goal.invariant-loop-vertex
invariant-loop-vertex l = record {
  so_far : l.count ≡ length (flat_map (edges_from l.graph) (take l.vertex (range_with_len 0 (order_of l.graph))));
  few : l.count ≤ l.vertex * 18446744073709551616;
}
