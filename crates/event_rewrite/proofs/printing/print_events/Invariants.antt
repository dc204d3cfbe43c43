use Rattle.std.proofs.Common.{◌≡◌, ◌++◌, take}
use Rattle.event_lines.specs.LineParts.{lines_of_events}
use Rattle.event_rewrite.specs.WithoutWaits.{with_tasks_from}
use Rattle.event_text.specs.LineTexts.{lines_text}
use Rattle.event_rewrite.proofs.printing.print_events.Given as goal

-- the lines so far were appended
abbrev pub invariant-loop-at : goal.invariant-loop-at
invariant-loop-at l = l.bytes.items ≡ l.fn.bytes.items ++ lines_text (with_tasks_from l.names l.first (lines_of_events (take l.at l.events)))
