use Rattle.std.proofs.Common.{◌≡◌, ◌+◌, take, vec_len}
use Rattle.clock_offsets.specs.inner.Search.{LinksTo, IsFrontier, Visits, unvisited}
use Rattle.clock_offsets.proofs.frontier.visit_linked.Given as goal

abbrev pub invariant-loop-link : goal.invariant-loop-link
invariant-loop-link l = record {
  visited : Visits (LinksTo (take l.link-index l.links)) l.depth l.initial.depths l.depths;
  frontier : IsFrontier l.depth l.depths l.frontier.items;
  counted : unvisited l.depths + vec_len l.frontier ≡ unvisited l.initial.depths + vec_len l.initial.frontier;
}
