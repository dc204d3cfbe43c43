use Rattle.std.proofs.Common.{◌≡◌, ◌+◌, ◌<◌, ◌≤◌}
use Rattle.hypothesis_index.specs.Places.{pairs_below}
use Rattle.hypothesis_index.proofs.pairs.unpair.Given as goal

abbrev pub invariant-loop-high : goal.invariant-loop-high
invariant-loop-high l = record {
  same : pairs_below l.high + l.rest ≡ l.fn.number;
  some : 0 < l.high;
  near : l.high + l.rest ≤ l.fn.number + 1;
}

abbrev pub decreases-loop-high : goal.decreases-loop-high
decreases-loop-high l = l.rest
