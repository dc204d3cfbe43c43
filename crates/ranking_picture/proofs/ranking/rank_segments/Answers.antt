use Rattle.std.proofs.Common.{List, IsPermutation, subst}
use Rattle.ranking_picture.specs.declared.ranked_row.RankedRow.{RankedRow}
use Rattle.ranking_picture.proofs.ranking.rank_segments.Goals as goal

pub returns : goal.returns
returns c =
    let rows = rw (c.gains.ensures, c.segments.ensures) at c.in_ok-rows.ensures in
    record {
      once = subst (λ (rs : List RankedRow). IsPermutation rs c.order_rows.new.rows.items) rows c.order_rows.ensures.same;
      falling = c.in_ok-order_rows.ensures.sorted;
    }
