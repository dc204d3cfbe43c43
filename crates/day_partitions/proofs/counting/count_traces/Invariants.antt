use Rattle.std.proofs.Common.{◌≡◌, length, take}
use Rattle.day_partitions.specs.Books.{all_traces}
use Rattle.day_partitions.specs.inner.Slots.{shown_days}
use Rattle.day_partitions.proofs.counting.count_traces.Given as goal

abbrev pub invariant-days : goal.invariant-days
invariant-days l = record { count : l.count ≡ length (all_traces (shown_days (take l.day-index l.days))) }
