use Rattle.std.proofs.Common.{◌≡◌, length, take}
use Rattle.event_lines.specs.LineParts.{lines_of_runs}
use Rattle.line_quality.specs.EventsRead.{events_in}
use Rattle.inspect_run.proofs.line_counts.count_events.Given as goal

-- those of the runs so far
abbrev pub invariant-loop-run : goal.invariant-loop-run
invariant-loop-run l = l.count ≡ length (events_in (lines_of_runs (take l.run-index l.runs)))
