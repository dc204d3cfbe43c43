use Rattle.std.proofs.Common.{◌≡◌, length}
use Rattle.trace_graph.specs.inner.Successors.{AreLists}
use Rattle.trace_graph.proofs.successors.list_successors.Given as goal

abbrev pub invariant-loop-vertex : goal.invariant-loop-vertex
invariant-loop-vertex g l = record {
  room : length l.found.items ≡ length l.names;
  lists : AreLists (g.P.PairTest.model l.pairs) l.names l.vertex l.lists.items;
}
