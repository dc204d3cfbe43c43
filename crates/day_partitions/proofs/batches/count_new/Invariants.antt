use Rattle.std.proofs.Common.{◌≡◌, ◌≤◌, take}
use Rattle.day_partitions.specs.Batches.{new_days}
use Rattle.day_partitions.specs.inner.Slots.{shown_days}
use Rattle.day_partitions.proofs.batches.count_new.Given as goal

abbrev pub invariant-sheets : goal.invariant-sheets
invariant-sheets l =
    record {
      count : l.new ≡ new_days (shown_days l.days) (take l.dated-index l.sheets);
      few : l.new ≤ l.dated-index;
    }
