use Rattle.std.proofs.Common.{◌≡◌, ◌++◌}
use Rattle.std.specs.Vec.Iter.{into_iter_items}
use Rattle.event_lines.specs.LineParts.{lines_of_runs}
use Rattle.inspect_run.specs.Logged.{logged_events}
use Rattle.inspect_run.proofs.traces.take_events.Given as goal

-- the events of the runs so far, and those of the runs that are left
abbrev pub invariant-runs : goal.invariant-runs
invariant-runs l = l.events ++ logged_events (lines_of_runs (into_iter_items l.run-iterator)) ≡ logged_events (lines_of_runs l.fn.runs.items)
