use Rattle.std.proofs.Common.{◌≡◌, drop}
use Rattle.event_lines.specs.LineParts.{lines_of_runs}
use Rattle.line_split.specs.inner.Said.{first_said}
use Rattle.line_split.proofs.judging.part_in.Given as goal

-- the runs so far have no line
abbrev pub invariant-runs : goal.invariant-runs
invariant-runs l = first_said (lines_of_runs l.runs) ≡ first_said (lines_of_runs (drop l.run-index l.runs))
