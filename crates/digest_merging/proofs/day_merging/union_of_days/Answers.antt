use Rattle.std.proofs.Common.{◌≡◌, ◌⊎◌, ℕ, ◌+◌, ◌-◌, ◌≤◌, ◌∙◌, ap, sym, subst, inl, inr, length, List, ◌++◌, get_or, drop, take, arith}
use Rattle.std.proofs.lemmas.Grind.{common_steps, get_or_default_zero}
use Rattle.std.specs.Ordering.{nat_cmp}
use Rattle.digest_facts.proofs.MergeLemmas.{nat_apart}
use Rattle.digest_merging.proofs.UnionLemmas.{IsUnionTo, equal_is, less_is, step_both, step_left, step_right, union_whole}
use Rattle.digest_merging.proofs.day_merging.union_of_days.Goals as goal
use Rattle.digest_merging.proofs.day_merging.union_of_days.Goals.{then-both-test+else-j-second, else-both-test}

pub both-preserved-then-x-y : goal.both-preserved-then-x-y
both-preserved-then-x-y c =
    let xs = c.args.first.now in
    let ys = c.args.second.now in
    let i = c.both.i in
    let j = c.both.j in
    subst (λ (l : List ℕ). IsUnionTo nat_cmp nat_apart xs ys l (i + 1) j) (sym c.in_ok-push.ensures.items)
    (step_left nat_cmp nat_apart xs ys c.both.days.items i j c.both.invariant c.both-test.true c.if-j-second.true (get_or xs i 0) (get_or ys j 0) (sym (get_or_default_zero xs i (get_or xs i 0) c.both-test.true)) (sym (get_or_default_zero ys j (get_or ys j 0) c.if-j-second.true)) (less_is _ _ c.if-x-y.true))

pub both-preserved-then-y-x : goal.both-preserved-then-y-x
both-preserved-then-y-x c =
    let xs = c.args.first.now in
    let ys = c.args.second.now in
    let i = c.both.i in
    let j = c.both.j in
    subst (λ (l : List ℕ). IsUnionTo nat_cmp nat_apart xs ys l i (j + 1)) (sym c.in_ok-push-2.ensures.items)
    (step_right nat_cmp nat_apart xs ys c.both.days.items i j c.both.invariant c.both-test.true c.if-j-second.true (get_or xs i 0) (get_or ys j 0) (sym (get_or_default_zero xs i (get_or xs i 0) c.both-test.true)) (sym (get_or_default_zero ys j (get_or ys j 0) c.if-j-second.true)) (less_is _ _ c.if-y-x.true))

pub both-preserved : goal.both-preserved
both-preserved c =
    let xs = c.args.first.now in
    let ys = c.args.second.now in
    let i = c.both.i in
    let j = c.both.j in
    subst (λ (l : List ℕ). IsUnionTo nat_cmp nat_apart xs ys l (i + 1) (j + 1)) (sym c.in_ok-push-3.ensures.items)
    (step_both nat_cmp nat_apart xs ys c.both.days.items i j c.both.invariant c.both-test.true c.if-j-second.true (get_or xs i 0) (get_or ys j 0) (sym (get_or_default_zero xs i (get_or xs i 0) c.both-test.true)) (sym (get_or_default_zero ys j (get_or ys j 0) c.if-j-second.true)) (equal_is _ _ c.if-x-y.false c.if-y-x.false))

-- the rest of a list is its part up to its end
rest_is : (xs : List ℕ) (i : ℕ) → take (length xs - i) (drop i xs) ≡ drop i xs
rest_is xs i = grind (arith, common_steps)

pub returns : goal.returns
returns c up down =
    let xs = c.args.first.now in
    let ys = c.args.second.now in
    let i = c.both.i in
    let j = c.both.j in
    let out = c.both.days.items in
    let a : c.extend_from_slice.new.self.items ≡ out ++ drop i xs = c.in_ok-extend_from_slice.ensures.items ∙ ap (λ (l : List ℕ). out ++ l) (rest_is xs i) in
    let b = c.in_ok-extend_from_slice-2.ensures.items ∙ ap (λ (l : List ℕ). c.extend_from_slice.new.self.items ++ l) (rest_is ys j) ∙ ap (λ (l : List ℕ). l ++ drop j ys) a in
    let over : (length xs ≤ i) ⊎ (length ys ≤ j) = elim c.both-test.branch [
      | then-both-test+else-j-second w ↦ inr w.if-j-second.false
      | else-both-test w ↦ inl w.both-test.false
    ] in
    b ∙ union_whole nat_cmp nat_apart xs ys out i j c.both.invariant over up down
