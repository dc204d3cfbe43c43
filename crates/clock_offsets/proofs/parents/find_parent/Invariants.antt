use Rattle.std.proofs.Common.{take, MatchOption}
use Rattle.clock_offsets.specs.inner.Search.{HasNone, IsBest}
use Rattle.clock_offsets.proofs.parents.find_parent.Given as goal

abbrev pub invariant-loop-link : goal.invariant-loop-link
invariant-loop-link l = MatchOption l.best (HasNone l.depths l.depth (take l.link-index l.links)) (IsBest l.trace.trace.events l.depths l.depth (take l.link-index l.links))
