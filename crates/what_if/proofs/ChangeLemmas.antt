-- Weights under changes.
use Rattle.std.proofs.Common.{ℕ, ◌*◌, ◌/◌, ◌<◌, ◌≤◌, Bool, true, false, cond, eqb, List, [], ◌∷◌, length, get_or, All, arith, sym, subst}
use Rattle.std.proofs.Math.Nat.{div-le_of_le-mul, mul_comm, mul-le-mul_left}
use Rattle.std.proofs.lemmas.List.Elements.{All-head, All-tail, Contains-get_or}
use Rattle.std.proofs.lemmas.Option.{slice_get-get_or}
use Rattle.trace_types.proofs.ElementLemmas.{at_index}
use Rattle.what_if.specs.declared.change.Change.{Change}
use Rattle.what_if.specs.Forecasts.{changed_time}
use Rattle.what_if.specs.ForecastLaws.{ChangesRaiseNoWeight, GraphHasSegments, IsNoGreater}

pub graph_has_segments : GraphHasSegments
graph_has_segments trace order g has = record {
  count = sym has.count;
  within = λ k d lt. (has.vertices.all (get_or order k d)).0 (Contains-get_or order k d lt);
}

-- a part of a time is at most the time
part_le : (time num den : ℕ) → num ≤ den → time * num / den ≤ time
part_le time num den le = div-le_of_le-mul den (subst (λ k. time * num ≤ k) (mul_comm time den) (mul-le-mul_left time le))

changed_le : (changes : List Change) (name time : ℕ) → All IsNoGreater changes → changed_time changes name time ≤ time
changed_le [] name time less = omega arith
changed_le (c ∷ cs) name time less = go (changed_le cs name time (All-tail IsNoGreater c cs less)) (eqb c.name name)
  where
    go : changed_time cs name time ≤ time → (b : Bool) → cond b (time * c.num / c.den) (changed_time cs name time) ≤ time
    go rest true = part_le time c.num c.den (All-head IsNoGreater c cs less).1
    go rest false = rest

pub changes_raise_no_weight : ChangesRaiseNoWeight
changes_raise_no_weight segments order changes g weights has less are = record {
  count = are.count;
  no_greater = λ v lt.
      let i = get_or order v 0 in
      let inside : v < length order = let size = has.count in omega arith in
      let within = has.within v 0 inside in
      let (s, got) = at_index segments i within in
      let is = are.weights v i s (slice_get-get_or order v 0 inside) got in
      let le = changed_le changes s.name (get_or g.weights v 0) less in
      omega arith;
}
