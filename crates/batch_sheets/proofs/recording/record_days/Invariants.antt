use Rattle.std.proofs.Common.{◌≡◌, ◌++◌, length}
use Rattle.std.specs.Vec.Iter.{into_iter_items, into_iter_len}
use Rattle.batch_sheets.specs.Recorded.{AreRecorded}
use Rattle.batch_sheets.proofs.recording.record_days.Given as goal

-- the days so far are recorded
abbrev pub invariant-loop-traces : goal.invariant-loop-traces
invariant-loop-traces g l = record {
  so_far : l.yielded ++ into_iter_items l.traces-iterator ≡ into_iter_items l.initial.traces-iterator;
  left : into_iter_len l.traces-iterator ≡ length (into_iter_items l.traces-iterator);
  recorded : AreRecorded l.names l.every l.workers l.yielded l.sheets.items l.watched.items;
}
