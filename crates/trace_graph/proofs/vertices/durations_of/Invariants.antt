use Rattle.std.proofs.Common.{◌≡◌, map, take}
use Rattle.trace_graph.specs.inner.Keys.{duration_of}
use Rattle.trace_graph.proofs.vertices.durations_of.Given as goal

abbrev pub invariant-loop-key : goal.invariant-loop-key
invariant-loop-key l = l.weights.items ≡ map duration_of (take l.key-index l.keys)
