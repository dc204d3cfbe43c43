use Rattle.std.proofs.Common.{List, IsPermutation, subst}
use Rattle.tail_picture.specs.declared.tailed_row.TailedRow.{TailedRow}
use Rattle.tail_picture.proofs.ordering.order_tail.Goals as goal

pub returns : goal.returns
returns c =
    let rows = rw (c.tail.ensures, c.tail_segments.ensures) at c.in_ok-rows.ensures in
    record {
      once = subst (λ (rs : List TailedRow). IsPermutation rs c.order_rows.new.rows.items) rows c.order_rows.ensures.same;
      falling = c.in_ok-order_rows.ensures.sorted;
    }
