use Rattle.std.proofs.Common.{◌≡◌, ◌++◌, None, take}
use Rattle.context_names.specs.Tasks.{task_name}
use Rattle.span_lines.specs.Lines.{lines_from}
use Rattle.span_lines.specs.inner.LentMappings.{mapping_lent}
use Rattle.span_lines.specs.inner.Printed.{piece_through, text_of}
use Rattle.span_lines.proofs.threads.print_steps.Given as goal

-- the lines of the steps so far, and the task that the thread is in
abbrev pub invariant-loop-step : goal.invariant-loop-step
invariant-loop-step l = record {
  text : l.text.items ≡ l.fn.text.items ++ text_of (lines_from (mapping_lent l.mapping) l.request l.thread None (take l.step-index l.steps));
  named : l.task ≡ task_name l.mapping.tasks.now l.thread (piece_through None (take l.step-index l.steps));
}
