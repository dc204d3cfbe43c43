use Rattle.std.proofs.Common.{◌≡◌, ◌+◌, take, vec_len}
use Rattle.clock_offsets.specs.inner.Search.{FrontierLinksTo, IsFrontier, Visits, unvisited}
use Rattle.clock_offsets.proofs.frontier.visit_next.Given as goal

abbrev pub invariant-loop-machine : goal.invariant-loop-machine
invariant-loop-machine l = record {
  visited : Visits (FrontierLinksTo l.links (take l.machine-index l.frontier)) l.depth l.initial.depths l.depths;
  frontier : IsFrontier l.depth l.depths l.next.items;
  counted : unvisited l.depths + vec_len l.next ≡ unvisited l.initial.depths;
}
