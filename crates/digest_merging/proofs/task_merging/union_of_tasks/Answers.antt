use Rattle.std.proofs.Common.{◌≡◌, ◌⊎◌, ℕ, ◌≤◌, List, ap, inl, inr, length, sym}
use Rattle.std.specs.Cmp.Lexicographic.{slice_cmp}
use Rattle.std.specs.Ordering.{nat_cmp}
use Rattle.digest_facts.proofs.MergeLemmas.{text_apart}
use Rattle.digest_merging.proofs.UnionLemmas.{row_both, row_left, row_right, rows_whole}
use Rattle.digest_merging.proofs.task_merging.union_of_tasks.Goals as goal
use Rattle.digest_merging.proofs.task_merging.union_of_tasks.Goals.{then-both-test+else-j-second, else-both-test}

-- rows that are one have one task
key : {x y : List ℕ × List ℕ} → x ≡ y → x.0 ≡ y.0
key e = ap (λ (r : List ℕ × List ℕ). r.0) e

pub both-preserved-in-Less : goal.both-preserved-in-Less
both-preserved-in-Less c =
    row_left (slice_cmp nat_cmp) text_apart c.args.first.now c.args.second.now c.both.tasks.items c.both.i c.both.j c.both.invariant _ c.both-test.true c.if-j-second.true c.index-first-i.result c.index-second-j.result _ _ _ c.index-first-i.is c.index-second-j.is (key c.left.view_is) (key c.right.view_is) c.in_ok-push-in-Less.ensures.items c.in_ok-copy-in-Less.ensures
    (sym c.in-Less.ensures)

pub both-preserved-in-Greater : goal.both-preserved-in-Greater
both-preserved-in-Greater c =
    row_right (slice_cmp nat_cmp) text_apart c.args.first.now c.args.second.now c.both.tasks.items c.both.i c.both.j c.both.invariant _ c.both-test.true c.if-j-second.true c.index-first-i.result c.index-second-j.result _ _ _ c.index-first-i.is c.index-second-j.is (key c.left.view_is) (key c.right.view_is) c.in_ok-push-in-Greater.ensures.items c.in_ok-copy-in-Greater.ensures
    (sym c.in-Greater.ensures)

pub both-preserved : goal.both-preserved
both-preserved c =
    row_both (slice_cmp nat_cmp) text_apart c.args.first.now c.args.second.now c.both.tasks.items c.both.i c.both.j c.both.invariant _ c.both-test.true c.if-j-second.true c.index-first-i.result c.index-second-j.result _ _ _ c.index-first-i.is c.index-second-j.is (key c.left.view_is) (key c.right.view_is) c.in_ok-push-in-Equal.ensures.items c.in_ok-copy-in-Equal.ensures
    (sym c.in-Equal.ensures)

pub returns : goal.returns
returns c up down =
    let over : (length c.args.first.now ≤ c.both.i) ⊎ (length c.args.second.now ≤ c.both.j) = elim c.both-test.branch [
      | then-both-test+else-j-second w ↦ inr w.if-j-second.false
      | else-both-test w ↦ inl w.both-test.false
    ] in
    rows_whole (slice_cmp nat_cmp) text_apart c.args.first.now c.args.second.now c.both.tasks.items c.both.i c.both.j c.both.invariant _ _ over c.in_ok-copy_rest.ensures c.in_ok-copy_rest-2.ensures up down
