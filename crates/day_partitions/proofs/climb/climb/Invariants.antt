use Rattle.std.proofs.Common.{◌≡◌, ◌+◌, ◌-◌, ◌*◌, ◌/◌, ◌^◌, ◌<◌, ◌≤◌}
use Rattle.day_partitions.specs.inner.Nodes.{AreRows, AreMetBut, ChangesInner}
use Rattle.day_partitions.proofs.climb.climb.Given as goal

abbrev pub invariant-levels : goal.invariant-levels
invariant-levels g l =
    record {
      rows : AreRows l.pool l.nodes l.leaves;
      met : AreMetBut l.pool l.nodes l.leaves (l.at / 2);
      others : ChangesInner l.initial.pool l.nodes l.leaves l.pool;
      low : 2 ^ (6 - l.counter) ≤ l.at;
      high : l.at < 2 * 2 ^ (6 - l.counter);
      within : l.at < 128;
      steps : l.steps ≡ l.initial.steps + l.counter;
    }
