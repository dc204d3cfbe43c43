use Rattle.std.proofs.Common.{◌≡◌, ◌++◌, take}
use Rattle.event_lines.specs.LineParts.{lines_of_runs}
use Rattle.event_rewrite.specs.WithoutWaits.{with_tasks_from}
use Rattle.event_rewrite.specs.inner.Counting.{event_count}
use Rattle.event_text.specs.LineTexts.{lines_text}
use Rattle.event_rewrite.proofs.printing.print_runs.Given as goal

-- the lines of the runs so far were appended
abbrev pub invariant-loop-run : goal.invariant-loop-run
invariant-loop-run l = record {
  text : l.bytes.items ≡ l.fn.bytes.items ++ lines_text (with_tasks_from l.names 0 (lines_of_runs (take l.run-index l.runs)));
  first : l.first ≡ event_count (lines_of_runs (take l.run-index l.runs));
}
