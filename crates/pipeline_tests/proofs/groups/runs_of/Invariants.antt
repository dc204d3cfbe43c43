use Rattle.std.proofs.Common.{◌≤◌, ◌-◌, length}
use Rattle.pipeline_tests.specs.inner.Groups.{AreRuns}
use Rattle.pipeline_tests.proofs.groups.runs_of.Given as goal

abbrev pub invariant-loop-from : goal.invariant-loop-from
invariant-loop-from l = record { within : l.from ≤ length l.stays; runs : AreRuns l.stays l.from l.groups.items }

abbrev pub decreases-loop-from : goal.decreases-loop-from
decreases-loop-from l = length l.stays - l.from
