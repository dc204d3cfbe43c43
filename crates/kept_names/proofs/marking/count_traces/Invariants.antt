use Rattle.std.proofs.Common.{◌≡◌, length, take}
use Rattle.day_partitions.specs.Books.{all_traces}
use Rattle.kept_names.proofs.marking.count_traces.Given as goal

abbrev pub invariant-loop-place : goal.invariant-loop-place
invariant-loop-place l = l.count ≡ length (all_traces (take l.place l.book.book.days))
