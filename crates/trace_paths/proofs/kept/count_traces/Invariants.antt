use Rattle.std.proofs.Common.{◌≡◌, length, take}
use Rattle.day_partitions.specs.Books.{all_traces}
use Rattle.trace_paths.proofs.kept.count_traces.Given as goal

abbrev pub invariant-days : goal.invariant-days
invariant-days l = l.count ≡ length (all_traces (take l.place l.book.days))
