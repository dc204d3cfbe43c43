use Rattle.std.proofs.Common.{◌≡◌, map, take}
use Rattle.trace_graph.specs.inner.Keys.{index_in}
use Rattle.trace_graph.proofs.vertices.indices_of.Given as goal

abbrev pub invariant-loop-key : goal.invariant-loop-key
invariant-loop-key l = l.order.items ≡ map index_in (take l.key-index l.keys)
