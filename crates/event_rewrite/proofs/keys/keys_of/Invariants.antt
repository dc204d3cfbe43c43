use Rattle.std.proofs.Common.{◌≡◌, ◌≤◌, take}
use Rattle.event_lines.specs.LineParts.{lines_of_runs}
use Rattle.event_rewrite.specs.TaskLines.{task_events}
use Rattle.event_rewrite.specs.inner.Counting.{batch_through}
use Rattle.task_pieces.specs.TaskKeys.{events_of_keys}
use Rattle.event_rewrite.proofs.keys.keys_of.Given as goal

-- the keys of the runs so far
abbrev pub invariant-loop-run : goal.invariant-loop-run
invariant-loop-run l = record {
  keys : events_of_keys l.keys.items ≡ task_events (lines_of_runs (take l.run-index l.runs));
  batch : l.batch ≡ batch_through 0 (lines_of_runs (take l.run-index l.runs));
  most : l.batch ≤ l.run-index;
}
