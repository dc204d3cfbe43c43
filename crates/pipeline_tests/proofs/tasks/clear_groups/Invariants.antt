use Rattle.std.proofs.Common.{◌≡◌, ◌+◌, ◌<◌, true, length, get_or, take}
use Rattle.hypothesis_index.specs.Refuting.{RefutesTasks}
use Rattle.pipeline_tests.specs.declared.groups.TaskStays.{TaskStays}
use Rattle.pipeline_tests.specs.inner.Pairs.{IsAmong, task_start}
use Rattle.refute_tests.specs.Clearing.{AddsExactly}
use Rattle.word_rows.specs.Rows.{below}
use Rattle.pipeline_tests.proofs.tasks.clear_groups.Given as goal

abbrev pub invariant-loop-index : goal.invariant-loop-index
invariant-loop-index l = record {
  cleared : AddsExactly l.fn.maker (λ r. IsAmong (take l.index l.groups) r × RefutesTasks r l.trace) l.maker;
  next : (d : TaskStays) → l.index < length l.groups → below (task_start (get_or l.groups l.index d).task + 1) l.maker ≡ true;
  fits : below 126 l.maker ≡ true;
}
