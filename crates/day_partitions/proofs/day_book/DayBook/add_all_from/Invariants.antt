use Rattle.std.proofs.Common.{◌≡◌, ◌≤◌, length, vec_capacity}
use Rattle.std.specs.Vec.Iter.{into_iter_items, into_iter_len}
use Rattle.day_partitions.specs.Batches.{with_all}
use Rattle.day_partitions.specs.Books.{book}
use Rattle.day_partitions.specs.inner.Slots.{shown_days}
use Rattle.day_partitions.proofs.BatchLemmas.{CanTake}
use Rattle.day_partitions.proofs.day_book.DayBook.add_all_from.Given as goal

abbrev pub invariant-sheets : goal.invariant-sheets
invariant-sheets g l =
    record {
      ready : CanTake l.self-inside.names l.self-inside.tree l.self-inside.days.items (into_iter_items l.dated-iterator);
      capacity : 64 ≤ vec_capacity l.self-inside.days;
      leads : with_all (book (shown_days l.self-inside.days.items) l.self-inside.names l.self-inside.tree.spare) (into_iter_items l.dated-iterator) ≡ with_all l.fn.self l.fn.sheets.items;
      left : into_iter_len l.dated-iterator ≡ length (into_iter_items l.dated-iterator);
    }
