use Rattle.std.proofs.Common.{◌+◌, map, subst, sym, ◌∙◌, arith}
use Rattle.digest_merging.proofs.DifferentLemmas.{CountsFirst, counted_sorted, counts_none, less_by_index, not_less_by_index, step_more, step_same, step_start}
use Rattle.digest_merging.proofs.different.count_different.Goals as goal
use Rattle.digest_merging.proofs.different.count_different.Goals.{then-k-eq0, then-k-eq0-via-then-k-eq0, then-k-eq0-via-else-k-eq0+then-eq, else-k-eq0+else-eq}

pub items-init : goal.items-init
items-init g c = record { few = omega arith; counted = λ o. counts_none g.T.Ord.cmp o (map (λ r. r.now) c.sort_unstable.new.self.items) }

pub overflow_add-count : goal.overflow_add-count
overflow_add-count g c = omega (arith, c.items.invariant.few, c.items-test.true, c.len-k-end.type_inv)

pub items-preserved : goal.items-preserved
items-preserved g c = elim c.if-k-eq0.branch [
  | then-k-eq0 w ↦ elim w.then-k-eq0.branch [
    | then-k-eq0-via-then-k-eq0 w' ↦ record {
      few = omega (arith, w.count-is, c.items.invariant.few);
      counted = λ o. subst (CountsFirst g.T.Ord.cmp o (map (λ r. r.now) c.sort_unstable.new.self.items) (c.items.k + 1)) (sym w.count-is)
          (step_start g.T.Ord.cmp o (λ r. r.now) c.sort_unstable.new.self.items c.sort_unstable.ensures.sorted c.items.k c.items.count (omega (arith, c.items-test.true, c.len-k-end.ensures)) w'.if-k-eq0.true (c.items.invariant.counted o));
    }
    | then-k-eq0-via-else-k-eq0+then-eq w' ↦ record {
      few = omega (arith, w.count-is, c.items.invariant.few);
      counted = λ o. subst (CountsFirst g.T.Ord.cmp o (map (λ r. r.now) c.sort_unstable.new.self.items) (c.items.k + 1)) (sym w.count-is)
          (step_more g.T.Ord.cmp o (λ r. r.now) c.sort_unstable.new.self.items c.sort_unstable.ensures.sorted c.items.k c.items.count w'.index-else-k-eq0.result.now (omega (arith, c.items-test.true, c.len-k-end.ensures)) w'.index-else-k-eq0.ensures (c.items.invariant.counted o)
          w'.index.result.now w'.index.ensures (omega (arith, w'.if-k-eq0.false)) (sym w'.cmp.ensures ∙ less_by_index g.T.Ord.cmp o w'.cmp.result w'.if-eq.ensures));
    }
  ]
  | else-k-eq0+else-eq w ↦ record {
    few = omega (arith, w.count-is, c.items.invariant.few);
    counted = λ o. subst (CountsFirst g.T.Ord.cmp o (map (λ r. r.now) c.sort_unstable.new.self.items) (c.items.k + 1)) (sym w.count-is)
        (step_same g.T.Ord.cmp o (λ r. r.now) c.sort_unstable.new.self.items c.sort_unstable.ensures.sorted c.items.k c.items.count w.index-else-k-eq0.result.now (omega (arith, c.items-test.true, c.len-k-end.ensures)) w.index-else-k-eq0.ensures (c.items.invariant.counted o)
        w.index.result.now w.index.ensures (omega (arith, w.if-k-eq0.false)) (λ e. not_less_by_index g.T.Ord.cmp o w.cmp.result w.if-eq.ensures (w.cmp.ensures ∙ e)));
  }
]

pub returns : goal.returns
returns g c o xs up same = counted_sorted g.T.Ord.cmp o (λ r. r.now) c.sort_unstable.new.self.items c.sort_unstable.ensures.sorted c.args.items.items c.items.count xs c.sort_unstable.ensures.permutation
    (subst (λ n. CountsFirst g.T.Ord.cmp o (map (λ r. r.now) c.sort_unstable.new.self.items) n c.items.count) (omega (arith, c.items-test.false, c.items.auto.k-end, c.len-k-end.ensures)) (c.items.invariant.counted o)) up same
