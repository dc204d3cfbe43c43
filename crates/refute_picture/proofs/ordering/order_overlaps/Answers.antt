use Rattle.std.proofs.Common.{List, IsPermutation, subst}
use Rattle.refute_picture.specs.declared.overlap_row.OverlapRow.{OverlapRow}
use Rattle.refute_picture.proofs.ordering.order_overlaps.Goals as goal

pub returns : goal.returns
returns c =
    let rows = rw c.betweens.ensures at c.in_ok-rows.ensures in
    record {
      once = subst (λ (rs : List OverlapRow). IsPermutation rs c.order_rows.new.rows.items) rows c.order_rows.ensures.same;
      falling = c.in_ok-order_rows.ensures.sorted;
    }
