use Rattle.std.proofs.Common.{◌≡◌, ◌≤◌, ◌+◌, ◌-◌, length, vec_len}
use Rattle.segment_cut.specs.inner.Keys.{key_times}
use Rattle.segment_cut.proofs.LineOrderLemmas.{AreRising}
use Rattle.segment_cut.proofs.line_order.list_keys_by_line.Given as goal

abbrev pub invariant-events : goal.invariant-events
invariant-events l = record {
  rising : AreRising l.tasks (key_times l.made) l.keys.items;
  few : vec_len l.keys ≤ length l.tasks;
  nexts : length l.nexts.items ≡ length l.tasks;
}

abbrev pub decreases-events : goal.decreases-events
decreases-events l = (length l.tasks - vec_len l.keys) + (length l.tasks - l.first)
