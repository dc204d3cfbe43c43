use Rattle.std.specs.Prelude.{◌==◌}
use Rattle.std.specs.List.{count_by}
use Rattle.span_requests.specs.inner.Circles.{IsOnWalk}
use Rattle.span_requests.proofs.circles.walk_ends.Given as goal

-- the walk came from the start, and from all that it marked, to where it is
abbrev pub invariant-calls : goal.invariant-calls
invariant-calls l = IsOnWalk l.callers l.fn.marks l.marks l.start l.walk l.at

abbrev pub decreases-calls : goal.decreases-calls
decreases-calls l = count_by (λ m. m == 0) l.marks
