use Rattle.std.proofs.Common.{◌∙◌, ap}
use Rattle.day_partitions.proofs.EmptyLemmas.{slots_empty, book_empty}
use Rattle.day_partitions.proofs.day_book.DayBook.new.Goals as goal

pub invariant_of-result : goal.invariant_of-result
invariant_of-result c =
    record {
      width = ap (λ t. t.width) c.in_ok-tree.ensures ∙ c.width.ensures;
      slots = slots_empty _ _ _ c.in_ok-tree.ensures c.in_ok-days.ensures.items;
      kept = book_empty _ _ _ _ c.requires c.in_ok-tree.ensures c.in_ok-days.ensures.items;
      capacity = c.in_ok-days.ensures.capacity;
    }
