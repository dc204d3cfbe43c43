use Rattle.std.proofs.Common.{◌≡◌, map, take}
use Rattle.trace_graph.specs.inner.Keys.{name_in}
use Rattle.trace_graph.proofs.vertices.names_of.Given as goal

abbrev pub invariant-loop-key : goal.invariant-loop-key
invariant-loop-key l = l.names.items ≡ map (name_in l.segments) (take l.key-index l.keys)
