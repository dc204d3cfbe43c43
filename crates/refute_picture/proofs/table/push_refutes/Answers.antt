use Rattle.std.proofs.Common.{◌≡◌, ◌++◌}
use Rattle.refute_picture.specs.Overlaps.{IsOverlapOrder}
use Rattle.refute_picture.specs.Refutes.{refutes_text}
use Rattle.refute_picture.proofs.OrderLemmas.{told_rows}
use Rattle.refute_picture.proofs.table.push_refutes.Goals as goal

pub returns : goal.returns
returns c =
    told_rows c.push_ordered.result (IsOverlapOrder c.args.page.now) (λ rows. c.push_ordered.new.bytes.items ≡ c.args.bytes.now.items ++ refutes_text c.args.page.now rows) c.in_ok-rows.rows.items c.in_ok-rows.ensures
    (rw c.deref.ensures.value at c.push_ordered.ensures)
