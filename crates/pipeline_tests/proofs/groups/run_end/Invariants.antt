use Rattle.std.proofs.Common.{◌≡◌, ◌<◌, ◌≤◌, ◌-◌, ℕ, length, get_or}
use Rattle.pipeline_tests.specs.declared.stays.Stay.{Stay}
use Rattle.pipeline_tests.proofs.groups.run_end.Given as goal

abbrev pub invariant-loop-to : goal.invariant-loop-to
invariant-loop-to l = record {
  more : l.fn.from < l.to;
  within : l.to ≤ length l.stays;
  same : (k : ℕ) (d : Stay) → l.fn.from ≤ k → k < l.to → (get_or l.stays k d).task ≡ l.task;
}

abbrev pub decreases-loop-to : goal.decreases-loop-to
decreases-loop-to l = length l.stays - l.to
