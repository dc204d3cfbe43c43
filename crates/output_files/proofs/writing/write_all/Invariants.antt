use Rattle.std.proofs.Common.{◌≡◌, ◌≤◌, ◌-◌, length, take}
use Rattle.output_files.specs.Written.{after_write}
use Rattle.output_files.proofs.writing.write_all.Given as goal

-- the bytes before the rest are written
abbrev pub invariant-loop-sent : goal.invariant-loop-sent
invariant-loop-sent g l = record {
  few : l.sent ≤ length l.bytes;
  written : g.P.OutputFiles.written l.files ≡ after_write (g.P.OutputFiles.written l.fn.files) l.index (take l.sent l.bytes);
  faults : g.P.OutputFiles.faults l.files ≡ g.P.OutputFiles.faults l.fn.files;
}

abbrev pub decreases-loop-sent : goal.decreases-loop-sent
decreases-loop-sent g l = length l.bytes - l.sent
