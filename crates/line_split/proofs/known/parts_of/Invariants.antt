use Rattle.std.proofs.Common.{take}
use Rattle.event_lines.specs.LineParts.{lines_of_runs}
use Rattle.line_split.specs.inner.Calls.{call_of_line}
use Rattle.line_split.specs.inner.Known.{ArePartsSaid}
use Rattle.line_split.proofs.known.parts_of.Given as goal

-- the parts of the lines of the runs so far
abbrev pub invariant-runs : goal.invariant-runs
invariant-runs l = ArePartsSaid (call_of_line l.call) (lines_of_runs (take l.run-index l.runs)) l.parts.items
