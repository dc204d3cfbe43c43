use Rattle.std.proofs.Common.{◌≡◌, ◌<◌, ◌≤◌, ℕ, length, get_or}
use Rattle.pipeline_tests.specs.declared.stays.Stay.{Stay}
use Rattle.pipeline_tests.proofs.stays.earlier_stay.Given as goal

abbrev pub invariant-loop-after : goal.invariant-loop-after
invariant-loop-after l = record {
  within : l.after ≤ length l.stays;
  none : (m : ℕ) (d : Stay) → l.after ≤ m → m < length l.stays → (get_or l.stays m d).element ≡ l.element → ⊥;
}

abbrev pub decreases-loop-after : goal.decreases-loop-after
decreases-loop-after l = l.after
