use Rattle.std.proofs.Common.{◌≡◌, ◌++◌}
use Rattle.tail_picture.specs.Tails.{IsTailOrder, tail_text}
use Rattle.tail_picture.proofs.OrderLemmas.{told_rows}
use Rattle.tail_picture.proofs.table.push_tail.Goals as goal

pub returns : goal.returns
returns c =
    told_rows c.push_ordered.result (IsTailOrder c.args.page.now) (λ rows. c.push_ordered.new.bytes.items ≡ c.args.bytes.now.items ++ tail_text c.args.page.now rows) c.in_ok-rows.rows.items c.in_ok-rows.ensures
    (rw c.deref.ensures.value at c.push_ordered.ensures)
