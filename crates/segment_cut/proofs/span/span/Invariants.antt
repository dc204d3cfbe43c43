use Rattle.std.proofs.Common.{◌≡◌, take, fold}
use Rattle.std.specs.Int.{int_max, int_min}
use Rattle.segment_cut.specs.inner.Keys.{key_times}
use Rattle.segment_cut.proofs.SpanLemmas.{first_of}
use Rattle.segment_cut.proofs.span.span.Given as goal

abbrev pub invariant-loop-task : goal.invariant-loop-task
invariant-loop-task l = record {
  greatest : l.greatest ≡ fold int_max (first_of (key_times l.keys)) (take l._task-index (key_times l.keys));
  least : l.least ≡ fold int_min (first_of (key_times l.keys)) (take l._task-index (key_times l.keys));
}
