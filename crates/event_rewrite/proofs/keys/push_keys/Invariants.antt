use Rattle.std.proofs.Common.{◌≡◌, ◌+◌, ◌++◌, length, take}
use Rattle.event_lines.specs.LineParts.{lines_of_events}
use Rattle.event_rewrite.specs.TaskLines.{task_events_from}
use Rattle.task_pieces.specs.TaskKeys.{events_of_keys}
use Rattle.event_rewrite.proofs.keys.push_keys.Given as goal

-- the keys of the events so far were appended
abbrev pub invariant-loop-at : goal.invariant-loop-at
invariant-loop-at l = record {
  keys : events_of_keys l.keys.items ≡ events_of_keys l.fn.keys.items ++ task_events_from l.batch (length l.fn.keys.items) (lines_of_events (take l.at l.events));
  count : length l.keys.items ≡ length l.fn.keys.items + l.at;
}
