-- Where no message goes from a machine to another, each machine has the offset 0.
use Rattle.std.proofs.Common.{◌≡◌, ℕ, zero, suc, ◌<◌, ℤ, pos, List, [], length, get_or, replicate, arith, refl, sym, subst, ap, ◌∙◌, ⊎_elim, inl, inr}
use Rattle.std.specs.BTreeMap.{BTreeMap, is_at}
use Rattle.std.specs.Map.{lookup}
use Rattle.std.proofs.lemmas.Bool.{cases_eq}
use Rattle.std.proofs.lemmas.List.{get_or-replicate, length-replicate}
use Rattle.trace_types.specs.declared.event.Event.{Event}
use Rattle.trace_types.specs.Events.{machine_at}
use Rattle.clock_offsets.specs.Messages.{ArePaired}
use Rattle.clock_offsets.specs.Depths.{IsReachedIn}
use Rattle.clock_offsets.specs.Offsets.{IsOffset, AreOffsets}
use Rattle.clock_offsets.specs.inner.Links.{AreNumbers}
use Rattle.clock_offsets.specs.inner.Delays.{AreLeastDelays, way_cmp}
use Rattle.clock_offsets.proofs.SearchLemmas.{number_of_paired, paired_back}
use Rattle.clock_offsets.proofs.StartLemmas.{reference_is, reference_at}

-- where no way has a delay, no machines are paired
none_paired : (events : List Event) (numbers : List ℕ) (least : BTreeMap (ℕ × ℕ) ℤ) (m n : List ℕ) → AreNumbers events numbers → AreLeastDelays events numbers least → least.entries ≡ [] → ArePaired events m n → ⊥
none_paired events numbers least m n a delays empty pair =
    let v = number_of_paired events numbers m n a pair in
    let w = number_of_paired events numbers n m a (paired_back events m n pair) in
    let here : ArePaired events (machine_at events v.0) (machine_at events w.0) = subst (λ (x : List ℕ). ArePaired events x (machine_at events w.0)) (sym v.2) (subst (λ (y : List ℕ). ArePaired events m y) (sym w.2) pair) in
    delays.none v.0 w.0 here.0 (ap (lookup (is_at (way_cmp (v.0, w.0)))) empty) (v.1, w.1, here.2)

-- so no pairings lead to a machine that is not the reference
zero_of : (events : List Event) (numbers : List ℕ) (least : BTreeMap (ℕ × ℕ) ℤ) (k : ℕ) → AreNumbers events numbers → AreLeastDelays events numbers least → least.entries ≡ [] → k < length events → IsOffset events (machine_at events k) (pos 0)
zero_of events numbers least k a delays empty lt = ⊎_elim
    (λ (same : get_or numbers k 0 ≡ get_or numbers 0 0).
    inl (0, (reference_is events (machine_at events k) some (sym (a.same k lt) ∙ (ap (machine_at events) same ∙ a.same 0 some)), refl)))
    (λ (other : get_or numbers k 0 ≡ get_or numbers 0 0 → ⊥). inr (unreachable other, refl))
    (cases_eq (get_or numbers k 0) (get_or numbers 0 0))
  where
    some : 0 < length events
    some = omega arith

    unreachable : (get_or numbers k 0 ≡ get_or numbers 0 0 → ⊥) → (j : ℕ) → IsReachedIn events j (machine_at events k) → ⊥
    unreachable other zero reference = other (a.one k 0 lt some (sym (reference_at events (machine_at events k) some reference)))
    unreachable other (suc j) (n, leads, pair) = none_paired events numbers least n (machine_at events k) a delays empty pair

-- each event has the offset 0
pub zeros_are : (events : List Event) (numbers : List ℕ) (least : BTreeMap (ℕ × ℕ) ℤ) (n : ℕ) → AreNumbers events numbers → AreLeastDelays events numbers least → least.entries ≡ [] → n ≡ length events → AreOffsets events (replicate n (pos 0))
zeros_are events numbers least n a delays empty all = record {
  each = length-replicate n (pos 0) ∙ all;
  value = λ k lt. subst (λ (o : ℤ). IsOffset events (machine_at events k) o) (sym (get_or-replicate n k (pos 0) (pos 0) (omega arith))) (zero_of events numbers least k a delays empty lt);
}
