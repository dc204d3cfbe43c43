use Rattle.std.proofs.Common.{◌≡◌, ◌≤◌, ◌<◌, ◌+◌, ◌*◌, ◌^◌, ◌++◌, ◌∷◌, [], ℕ, List, get_or, max, take, arith, sym, ap, ◌∙◌, subst}
use Rattle.std.specs.Prelude.{sum}
use Rattle.std.proofs.lemmas.List.{take_more}
use Rattle.std.proofs.lemmas.List.Sums.{sum_by_more}
use Rattle.trace_rules.specs.Numbers.{IsGreatest, OrZero}
use Rattle.latency_report.proofs.MedianLemmas.{greatest_push, max_is}
use Rattle.latency_report.proofs.measuring.sum_and_greatest.Goals as goal

pub numbers-preserved : goal.numbers-preserved
numbers-preserved c =
    let xs = c.args.numbers.now in
    let i = c.numbers.number-index in
    let n = get_or xs i 0 in
    let so_far = c.numbers.invariant in
    let more = sum_by_more (λ (x : ℕ). x) xs i 0 c.numbers-test.true in
    record {
      sum = ap (λ (k : ℕ). k + c.from-sum.result) so_far.sum ∙ (ap (λ (k : ℕ). sum (take i xs) + k) c.from-sum.ensures ∙ sym more);
      bound = let f = c.type_inv.numbers i in let b = so_far.bound in let e = c.from-sum.ensures in omega arith;
      greatest = subst (λ (l : List ℕ). OrZero IsGreatest l c.max-greatest.result) (sym (take_more xs i 0 c.numbers-test.true)) (subst (OrZero IsGreatest (take i xs ++ n ∷ [])) (sym (c.max-greatest.ensures ∙ max_is c.numbers.greatest n)) (greatest_push (take i xs) c.numbers.greatest n so_far.greatest));
    }
