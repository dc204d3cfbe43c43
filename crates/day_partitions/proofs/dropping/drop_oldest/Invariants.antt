use Rattle.std.proofs.Common.{◌≡◌, ◌+◌, ◌-◌, ◌≤◌, length, drop, vec_capacity}
use Rattle.day_partitions.specs.Books.{all_traces}
use Rattle.day_partitions.specs.inner.Slots.{AreInSlots, shown_days}
use Rattle.day_partitions.proofs.dropping.drop_oldest.Given as goal

abbrev pub invariant-days : goal.invariant-days
invariant-days g l =
    record {
      count : l.dropped + length (all_traces (shown_days l.days.items)) ≡ length (all_traces (shown_days l.initial.days.items));
      slots : AreInSlots l.tree l.days.items;
      longer : length l.days.items ≤ length l.initial.days.items;
      least : length l.initial.days.items - (length l.initial.days.items - l.keep) ≤ length l.days.items;
      items : l.days.items ≡ drop (length l.initial.days.items - length l.days.items) l.initial.days.items;
      width : l.tree.width ≡ l.initial.tree.width;
      spare : l.tree.spare ≡ l.initial.tree.spare + (length l.initial.days.items - length l.days.items);
      capacity : vec_capacity l.days ≡ vec_capacity l.initial.days;
    }

abbrev pub decreases-days : goal.decreases-days
decreases-days g l = length l.days.items
