use Rattle.std.proofs.Common.{◌<◌, ◌≤◌, length, refl, ap, arith}
use Rattle.weighted_dag.specs.Graphs.{order_of}
use Rattle.trace_rows.proofs.EdgeLemmas.{edges_next, edges_all}
use Rattle.trace_rows.proofs.graph_texts.count_edges.Goals as goal

pub loop-vertex-preserved : goal.loop-vertex-preserved
loop-vertex-preserved c =
    let lt : c.loop-vertex.vertex < order_of c.args.graph.now = omega (arith, ap length c.weights.ensures.weights) in
    record {
      so_far = edges_next c.args.graph.now (order_of c.args.graph.now) c.loop-vertex.vertex c.loop-vertex.count (length c.successors.result.now) lt c.loop-vertex.invariant.so_far (ap length c.successors.ensures.successors);
      few = omega arith;
    }

pub returns : goal.returns
returns c =
    let le : order_of c.args.graph.now ≤ c.loop-vertex.vertex = omega (arith, ap length c.weights.ensures.weights) in
    edges_all c.args.graph.now (order_of c.args.graph.now) c.loop-vertex.vertex c.loop-vertex.count refl le c.loop-vertex.invariant.so_far
