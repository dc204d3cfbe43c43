use Rattle.std.proofs.Common.{◌≡◌, ◌≤◌, ◌-◌, length, take}
use Rattle.std.specs.Io.KnownBytes.{append_known}
use Rattle.mystery_io.proofs.writing.write_text.Given as goal

-- the bytes before the rest are written
abbrev pub invariant-loop-sent : goal.invariant-loop-sent
invariant-loop-sent g l = record {
  few : l.sent ≤ length l.bytes;
  written : g.S.Sink.written l.sink ≡ append_known (g.S.Sink.written l.fn.sink) (take l.sent l.bytes);
  faults : g.S.Sink.faults l.sink ≡ g.S.Sink.faults l.fn.sink;
  unsent : l.sent ≡ 0 → l.sink ≡ l.fn.sink;
}

abbrev pub decreases-loop-sent : goal.decreases-loop-sent
decreases-loop-sent g l = length l.bytes - l.sent
