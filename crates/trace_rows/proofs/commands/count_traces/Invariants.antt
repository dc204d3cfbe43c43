use Rattle.std.proofs.Common.{◌≡◌, length, take}
use Rattle.day_partitions.specs.Books.{all_traces}
use Rattle.trace_rows.proofs.commands.count_traces.Given as goal

-- the traces of the days so far
abbrev pub invariant-loop-place : goal.invariant-loop-place
invariant-loop-place l = record {
  so_far : l.count ≡ length (all_traces (take l.place l.book.book.days));
}
