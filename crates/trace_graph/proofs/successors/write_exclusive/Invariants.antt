use Rattle.std.proofs.Common.{◌≡◌, ◌≤◌, ◌+◌, length, take}
use Rattle.trace_graph.specs.inner.Successors.{AreExclusive}
use Rattle.trace_graph.proofs.successors.write_exclusive.Given as goal

abbrev pub invariant-loop-later : goal.invariant-loop-later
invariant-loop-later g l = record {
  room : length l.found ≡ length l.names;
  few : l.count + 1 ≤ l.later;
  exclusive : AreExclusive (g.P.PairTest.model l.pairs) l.names l.vertex l.later (take l.count l.found);
}
