use Rattle.std.proofs.Common.{◌≡◌, length, take}
use Rattle.context_forks.specs.Forks.{is_linked}
use Rattle.context_forks.specs.inner.Marks.{AreMarked}
use Rattle.context_forks.proofs.marks.mark_linked.Given as goal

-- the contexts of the links so far are marked
abbrev pub invariant-loop-at : goal.invariant-loop-at
invariant-loop-at l = record {
  size : length l.forked ≡ length l.initial.forked;
  marked : AreMarked (is_linked (take l.at l.links)) l.initial.forked l.forked;
}
