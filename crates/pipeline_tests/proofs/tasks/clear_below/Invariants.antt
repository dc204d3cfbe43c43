use Rattle.std.proofs.Common.{◌≡◌, ◌+◌, ◌<◌, true, length, get_or, take}
use Rattle.hypothesis_index.specs.Refuting.{RefutesTasks}
use Rattle.pipeline_tests.specs.declared.groups.TaskStays.{TaskStays}
use Rattle.pipeline_tests.specs.inner.Pairs.{IsWithBefore, task_start, task_word}
use Rattle.refute_tests.specs.Clearing.{AddsExactly}
use Rattle.word_rows.specs.Rows.{below}
use Rattle.pipeline_tests.proofs.tasks.clear_below.Given as goal

abbrev pub invariant-loop-low : goal.invariant-loop-low
invariant-loop-low l = record {
  cleared : AddsExactly l.fn.maker (λ r. IsWithBefore (take l.low-index l.before) l.high.task r × RefutesTasks r l.trace) l.maker;
  next : (d : TaskStays) → l.low-index < length l.before → below (task_word (get_or l.before l.low-index d).task l.high.task + 1) l.maker ≡ true;
  done : below (task_start (l.high.task + 1) + 1) l.maker ≡ true;
  fits : below 126 l.fn.maker ≡ true → below 126 l.maker ≡ true;
}
