use Rattle.std.proofs.Common.{◌≡◌, take, vec_capacity}
use Rattle.day_partitions.specs.inner.Rooms.{HaveTraceRoom}
use Rattle.day_partitions.specs.inner.Slots.{AreSameDays}
use Rattle.day_partitions.proofs.batches.make_trace_rooms.Given as goal

abbrev pub invariant-sheets : goal.invariant-sheets
invariant-sheets l =
    record {
      room : HaveTraceRoom l.days.items (take l.dated-index l.sheets);
      same : AreSameDays l.initial.days.items l.days.items;
      capacity : vec_capacity l.days ≡ vec_capacity l.initial.days;
    }
