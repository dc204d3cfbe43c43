use Rattle.std.proofs.Common.{◌≡◌, ◌⊎◌, ◌^◌, ◌<◌, ◌≤◌, ℕ, [], List, length, get_or, set, All, arith, sym, ap, ◌∙◌, subst, ⊎_elim, inl, inr}
use Rattle.std.proofs.lemmas.Bool.{cases_lt}
use Rattle.std.proofs.lemmas.List.{get_or-set_other, get_or-set_same, length_push, length-set}
use Rattle.trace_rules.specs.declared.figures.Figures.{Figures}
use Rattle.trace_paths.specs.Tables.{list_at}
use Rattle.trace_rules.specs.Numbers.{AreFigures}
use Rattle.latency_report.proofs.RowLemmas.{popped}
use Rattle.latency_report.proofs.rows.measure_each.Goals as goal

pub measure-requires : goal.measure-requires
measure-requires c =
    let so_far = c.lists.invariant in
    let p = popped c.args.table c.lists.lists.items c.pop.new.self.items c.in-Some.list c.in-Some.ensures.items so_far.left so_far.few in
    subst (λ (ns : List ℕ). length ns < 2 ^ 32) (p.list ∙ sym c.deref_mut.ensures.value) (c.requires (length c.pop.new.self.items) [] p.within)

pub lists-preserved : goal.lists-preserved
lists-preserved c =
    let table = c.args.table in
    let so_far = c.lists.invariant in
    let left = c.pop.new.self.items in
    let old = c.lists.figures.items in
    let f = c.measure.result in
    let p = popped table c.lists.lists.items left c.in-Some.list c.in-Some.ensures.items so_far.left so_far.few in
    let at : c.len-in-Some.result ≡ length left = omega (arith, c.len-in-Some.ensures, c.pop.new.self.ok.0) in
    let size = ap length c.in-Some.ensures.items ∙ length_push left c.in-Some.list in
    rw at (record {
      few = let w = p.within in omega arith;
      left = p.rest;
      count = length-set old (length left) f ∙ so_far.count;
      done = λ n d low within. ⊎_elim
          (λ (here : n ≤ length left).
          let same : length left ≡ n = omega arith in
          subst (λ (k : ℕ). AreFigures (list_at table k) (get_or (set old (length left) f) k d)) same
          (rw (get_or-set_same old (length left) f d (let w = p.within in let s = so_far.count in omega arith), p.list)
          (subst (λ (l : List ℕ). AreFigures l f) c.deref_mut.ensures.value c.measure.ensures)))
          (λ (above : length left < n). rw (get_or-set_other old (length left) n f d (λ e. omega arith)) (so_far.done n d (omega arith) within))
          (le_or n (length left));
    })
  where
    le_or : (a b : ℕ) → (a ≤ b) ⊎ (b < a)
    le_or a b = ⊎_elim (λ (l : b < a). inr l) (λ (le : a ≤ b). inl le) (cases_lt b a)
