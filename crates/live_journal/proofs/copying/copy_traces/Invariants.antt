use Rattle.std.proofs.Common.{◌≡◌, ◌≤◌, length, take, vec_capacity}
use Rattle.live_journal.proofs.copying.copy_traces.Given as goal

abbrev pub invariant-loop-trace : goal.invariant-loop-trace
invariant-loop-trace l = record {
  copied : l.copy.items ≡ take l.trace-index l.traces;
  room : length l.traces ≤ vec_capacity l.copy;
}
