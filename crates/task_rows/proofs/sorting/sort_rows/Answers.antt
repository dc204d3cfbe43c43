use Rattle.std.proofs.Common.{◌<◌, ℕ, List, length, map, get_or, sym, ◌∙◌, subst}
use Rattle.std.proofs.lemmas.Result.{IfOk-weaker}
use Rattle.evidence_rules.specs.declared.sharing.Sharing.{Sharing}
use Rattle.evidence_rules.specs.declared.pair_row.PairRow.{PairRow}
use Rattle.support_order.specs.Orders.{IsOrder}
use Rattle.task_rows.specs.Kinds.{traces_of}
use Rattle.task_rows.specs.inner.Sorting.{IsPicked}
use Rattle.task_rows.proofs.RowLemmas.{by_support_from, order_within}
use Rattle.task_rows.proofs.sorting.sort_rows.Goals as goal

pub pick-requires : goal.pick-requires
pick-requires c =
    let rows : List (PairRow Sharing) = c.args.rows.now in
    let order : List (ℕ × ℕ) = c.in_ok-order.order.items in
    let is : IsOrder (map (λ (row : PairRow Sharing). traces_of row.figures) rows) order = subst (λ (l : List ℕ). IsOrder l order) (c.deref.ensures.value ∙ c.in_ok-supports.ensures) c.in_ok-order.ensures in
    subst (λ (l : List (ℕ × ℕ)). (k : ℕ) (d : ℕ × ℕ) → k < length l → (get_or l k d).1 < length rows) (sym c.deref-2.ensures.value) (order_within rows order is)

pub returns : goal.returns
returns c =
    let rows : List (PairRow Sharing) = c.args.rows.now in
    let order : List (ℕ × ℕ) = c.in_ok-order.order.items in
    let is : IsOrder (map (λ (row : PairRow Sharing). traces_of row.figures) rows) order = subst (λ (l : List ℕ). IsOrder l order) (c.deref.ensures.value ∙ c.in_ok-supports.ensures) c.in_ok-order.ensures in
    IfOk-weaker c.pick.result _ _ (λ sorted are. by_support_from rows order is sorted.items (subst (λ (l : List (ℕ × ℕ)). IsPicked rows l sorted.items) c.deref-2.ensures.value are)) c.pick.ensures
