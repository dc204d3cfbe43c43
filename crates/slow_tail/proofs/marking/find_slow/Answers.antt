use Rattle.std.proofs.Common.{◌≡◌, ◌+◌, ◌-◌, ℕ, Bool, List, [], ◌∷◌, ◌++◌, length, IsPermutation, arith, refl, sym, ap, ◌∙◌, subst}
use Rattle.std.specs.Prelude.{count_by}
use Rattle.trace_rules.specs.SlowTraces.{IsFloor, slow_count, slow_marks, slow_of, with_indices}
use Rattle.slow_tail.proofs.SlowLemmas.{IsFirst, Place, count_from_first, first_from_split, floor_from_first, length_places, marks_from_first, none_slow}
use Rattle.slow_tail.proofs.marking.find_slow.Goals as goal

pub returns-then-count-eq0 : goal.returns-then-count-eq0
returns-then-count-eq0 c =
    let none : c.args.latencies.now ≡ [] = none_slow c.args.latencies.now (sym c.count_slow-count.ensures.count ∙ c.if-count-eq0.true) in
    record {
      marks = c.new.ensures.items ∙ sym (ap slow_marks none);
      count = sym c.if-count-eq0.true ∙ c.count_slow-count.ensures.count;
      exact = ap (λ (l : List ℕ). count_by (λ (m : Bool). m) (slow_marks l)) none;
      floor = subst (λ (l : List ℕ). IsFloor (slow_of l l) 0) (sym none) refl;
    }

pub select_nth_unstable-fast-requires : goal.select_nth_unstable-fast-requires
select_nth_unstable-fast-requires c =
    omega (arith, ap length c.deref_mut.ensures.value, ap length c.in_ok-places.ensures, length_places c.args.latencies.now, c.if-count-eq0.false, c.count_slow-count.ensures.within)

pub returns : goal.returns
returns c =
    let latencies = c.args.latencies.now in
    let parts = c.select_nth_unstable-fast.result in
    let says = c.select_nth_unstable-fast.ensures in
    let low = parts.0.now in
    let p : Place = parts.1.now in
    let high = parts.2.now in
    let count = c.count_slow-count.ensures.count in
    let within = c.count_slow-count.ensures.within in
    let moved : IsPermutation (with_indices latencies) (low ++ p ∷ high) =
    subst (λ (l : List Place). IsPermutation l (low ++ p ∷ high)) (c.deref_mut.ensures.value ∙ c.in_ok-places.ensures) says.permutation in
    let first : IsFirst latencies p = first_from_split latencies low high p (length latencies - c.count_slow-count.result) (omega arith) moved says.front_len says.partitioned in
    record {
      marks = c.in_ok-marks.ensures ∙ marks_from_first latencies p first;
      count = count;
      exact = count_from_first latencies p first ∙ sym count;
      floor = floor_from_first latencies p first;
    }
