use Rattle.std.proofs.Common.{◌≡◌, ◌≤◌, ◌<◌, ◌+◌, ◌*◌, ◌^◌, ℕ, get_or, take, arith, sym, ap, ◌∙◌}
use Rattle.std.specs.Prelude.{sum}
use Rattle.std.proofs.lemmas.List.Sums.{sum_by_more}
use Rattle.slow_tail.proofs.rows.add_up.Goals as goal

pub numbers-preserved : goal.numbers-preserved
numbers-preserved c =
    let xs = c.args.numbers.now in
    let i = c.numbers.number-index in
    let so_far = c.numbers.invariant in
    let more = sum_by_more (λ (x : ℕ). x) xs i 0 c.numbers-test.true in
    record {
      sum = ap (λ (k : ℕ). k + c.from-sum.result) so_far.sum ∙ (ap (λ (k : ℕ). sum (take i xs) + k) c.from-sum.ensures ∙ sym more);
      bound = let f = c.type_inv.numbers i in let b = so_far.bound in let e = c.from-sum.ensures in omega arith;
    }
