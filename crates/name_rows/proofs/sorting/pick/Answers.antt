use Rattle.std.proofs.Common.{◌+◌, ◌<◌, ℕ, List, length, take, get_or, sym, subst}
use Rattle.std.proofs.lemmas.Option.{slice_get-get_or}
use Rattle.evidence_rules.specs.declared.between.Between.{Between}
use Rattle.evidence_rules.specs.declared.pair_row.PairRow.{PairRow}
use Rattle.name_rows.specs.inner.Sorting.{IsPicked}
use Rattle.name_rows.proofs.RowLemmas.{no_row, picked_more}
use Rattle.name_rows.proofs.sorting.pick.Goals as goal

pub order-preserved : goal.order-preserved
order-preserved c =
    let rows : List (PairRow Between) = c.args.rows.now in
    let order : List (ℕ × ℕ) = c.args.order.now in
    let at = c.order.at in
    let place = (get_or order at (0, 0)).1 in
    let within : place < length rows = c.requires at (0, 0) c.order-test.true in
    subst (IsPicked rows (take (at + 1) order)) (sym c.in_ok-push.ensures.items)
    (picked_more rows order at (0, 0) c.order.picked.items (get_or rows place no_row) c.order-test.true (slice_get-get_or rows place no_row within) c.order.invariant)
