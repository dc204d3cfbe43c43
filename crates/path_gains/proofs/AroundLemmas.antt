-- The greatest lengths of the chains around a vertex, from the first vertex on.
use Rattle.std.proofs.Common.{◌≡◌, ◌≢◌, ◌⊎◌, ℕ, ◌+◌, ◌<◌, ◌≤◌, max, List, [], ◌∷◌, ◌++◌, length, take, get_or, map, Contains, inl, inr, ⊎_elim, refl, sym, ap, ◌∙◌, subst, arith}
use Rattle.std.proofs.lemmas.Bool.{cases_lt, cases_eq}
use Rattle.std.proofs.lemmas.List.Sums.{sum_by-cons}
use Rattle.std.proofs.lemmas.List.{get_or-map, take_more}
use Rattle.std.proofs.lemmas.List.Elements.{Contains-append_left, Contains-push, Contains-push_cases}
use Rattle.path_gains.specs.Gains.{with_weight_at}
use Rattle.path_gains.specs.inner.Around.{AreLengths, IsAroundBelow, IsChainAround, IsRaisedOver}
use Rattle.path_gains.specs.inner.Spans.{RaisesIn}
use Rattle.path_gains.proofs.WeightLemmas.{weight_other, after_same, before_same}
use Rattle.slack.proofs.LeadingLemmas.{lead, chain_length-lead, IsChain-lead}
use Rattle.weighted_dag.specs.Chains.{AllAreShorter, chain_length}
use Rattle.weighted_dag.specs.Graphs.{Graph, IsGraph, IsEdge, order_of, weight_of, successors_of}

-- what a raised span tells of one number
pub record Told (low high least v old new : ℕ) : Type 0 where
  pub stays : old ≤ new
  pub upper : low ≤ v → v < high → least ≤ new
  pub reached : (new ≡ old) ⊎ ((low ≤ v) × (v < high) × (new ≡ least))

pub told : (low high least v old new : ℕ) → RaisesIn low high least v old new → Told low high least v old new
told low high least v old new raises = ⊎_elim
    (λ (r : (low ≤ v) × (v < high) × (new ≡ max old least)).
    let is : new ≡ max old least = r.2 in
    record {
      stays = omega arith;
      upper = λ a b. omega arith;
      reached = ⊎_elim (λ (l : old < least). inr (r.0, r.1, omega arith)) (λ (l : least ≤ old). inl (omega arith)) (cases_lt old least);
    })
    (λ (r : ((v < low) ⊎ (high ≤ v)) × (new ≡ old)).
    let is : new ≡ old = r.1 in
    record {
      stays = omega arith;
      upper = λ a b. ⊎_elim (λ (l : v < low). absurd (omega arith)) (λ (l : high ≤ v). absurd (omega arith)) r.0;
      reached = inl r.1;
    })
    raises

-- at first nothing is known
pub IsAroundBelow-none : (g : Graph) (into from : List ℕ) (v : ℕ) → IsAroundBelow g into from 0 v 0
IsAroundBelow-none g into from v = record {
  before = λ x a b. absurd (omega arith);
  after = λ x a b. absurd (omega arith);
  over = λ x y a b d e. absurd (omega arith);
  reached = ([], record { chain = tt; length = refl; always = λ w. refl });
}

-- what holds up to a vertex holds up to one before it
pub IsAroundBelow-less : (g : Graph) (into from : List ℕ) (w u v n : ℕ) → w ≤ u → IsAroundBelow g into from u v n → IsAroundBelow g into from w v n
IsAroundBelow-less g into from w u v n low so = record {
  before = λ x a b. so.before x (omega arith) b;
  after = λ x a b. so.after x (omega arith) b;
  over = λ x y a b d e. so.over x y (omega arith) b d e;
  reached = so.reached;
}

module _ (g : Graph) (form : IsGraph g) (into from : List ℕ) (are : AreLengths g into from) (v u : ℕ) (within : u < order_of g) where
  -- a chain that begins after v
  chain_after : v < u → (c : List ℕ) × IsChainAround g v (get_or from u 0) c
  chain_after late =
      let best = (are.from_is u within).reached in (
        u ∷ best.0,
        record {
          chain = best.1;
          length = best.2;
          always = λ w.
              let same = weight_other g v w u (λ (e : u ≡ v). omega arith) in
              let rest = after_same g v w form u best.0 (omega arith) best.1 in
              let a = sum_by-cons (weight_of g) u best.0 in
              let b = sum_by-cons (weight_of (with_weight_at g v w)) u best.0 in
              let is : chain_length g (u ∷ best.0) ≡ get_or from u 0 = best.2 in
              omega arith;
        },
      )

  -- a chain that ends before v
  chain_before : u < v → (c : List ℕ) × IsChainAround g v (get_or into u 0 + weight_of g u) c
  chain_before early =
      let best = (are.into_is u within).reached in
      let is : chain_length g best.0 ≡ get_or into u 0 = best.2 in (
        lead best.0 (u ∷ []),
        record {
          chain = IsChain-lead g form best.0 u [] best.1 (within, tt, tt);
          length =
              let parts = chain_length-lead g best.0 (u ∷ []) in
              let a = sum_by-cons (weight_of g) u [] in
              omega arith;
          always = λ w.
              let parts = chain_length-lead (with_weight_at g v w) best.0 (u ∷ []) in
              let same = weight_other g v w u (λ (e : u ≡ v). omega arith) in
              let first = before_same g v w form u best.0 (omega arith) best.1 in
              let b = sum_by-cons (weight_of (with_weight_at g v w)) u [] in
              omega arith;
        },
      )

  -- a chain that jumps over v
  chain_over : (y : ℕ) → u < v → v < y → IsEdge g u y → (c : List ℕ) × IsChainAround g v (get_or into u 0 + weight_of g u + get_or from y 0) c
  chain_over y early late edge =
      let best = (are.into_is u within).reached in
      let is : chain_length g best.0 ≡ get_or into u 0 = best.2 in
      let next = (are.from_is y (form.within u y edge)).reached in
      let is' : chain_length g (y ∷ next.0) ≡ get_or from y 0 = next.2 in (
        lead best.0 (u ∷ y ∷ next.0),
        record {
          chain = IsChain-lead g form best.0 u (y ∷ next.0) best.1 (within, edge, next.1);
          length =
              let parts = chain_length-lead g best.0 (u ∷ y ∷ next.0) in
              let a = sum_by-cons (weight_of g) u (y ∷ next.0) in
              omega arith;
          always = λ w.
              let parts = chain_length-lead (with_weight_at g v w) best.0 (u ∷ y ∷ next.0) in
              let same = weight_other g v w u (λ (e : u ≡ v). omega arith) in
              let first = before_same g v w form u best.0 (omega arith) best.1 in
              let there = weight_other g v w y (λ (e : y ≡ v). omega arith) in
              let rest = after_same g v w form y next.0 (omega arith) next.1 in
              let a = sum_by-cons (weight_of g) y next.0 in
              let b = sum_by-cons (weight_of (with_weight_at g v w)) u (y ∷ next.0) in
              let d = sum_by-cons (weight_of (with_weight_at g v w)) y next.0 in
              omega arith;
        },
      )

  -- one more vertex is known
  module _ (n first second third : ℕ) (so : IsAroundBelow g into from u v n) (begins : RaisesIn 0 u (get_or from u 0) v n first) (ends : RaisesIn (u + 1) (order_of g) (get_or into u 0 + weight_of g u) v first second) (jumps : IsRaisedOver (successors_of g u) from (u + 1) (get_or into u 0 + weight_of g u) v second third) (inside : v < order_of g) where
    abbrev Has : ℕ → Type 0
    Has m = (c : List ℕ) × IsChainAround g v m c

    has : Has third
    has =
        let a = told 0 u (get_or from u 0) v n first begins in
        let b = told (u + 1) (order_of g) (get_or into u 0 + weight_of g u) v first second ends in
        ⊎_elim
        (λ (e : third ≡ second). subst Has (sym e) (⊎_elim
        (λ (f : second ≡ first). subst Has (sym f) (⊎_elim
        (λ (k : first ≡ n). subst Has (sym k) so.reached)
        (λ (k : (0 ≤ v) × (v < u) × (first ≡ get_or from u 0)). subst Has (sym k.2) (chain_after k.1))
        a.reached))
        (λ (f : (u + 1 ≤ v) × (v < order_of g) × (second ≡ get_or into u 0 + weight_of g u)). let low = f.0 in subst Has (sym f.2) (chain_before (omega arith)))
        b.reached))
        (λ (e : (y : ℕ) × Contains (successors_of g u) y × (u + 1 ≤ v) × (v < y) × (third ≡ get_or into u 0 + weight_of g u + get_or from y 0)). let low = e.2 in subst Has (sym e.4) (chain_over e.0 (omega arith) e.3 e.1))
        jumps.reached

    pub IsAroundBelow-more : IsAroundBelow g into from (u + 1) v third
    IsAroundBelow-more =
        let a = told 0 u (get_or from u 0) v n first begins in
        let b = told (u + 1) (order_of g) (get_or into u 0 + weight_of g u) v first second ends in
        let up = a.stays in
        let up' = b.stays in
        let up'' = jumps.stays in
        record {
          before = λ x low early. ⊎_elim
              (λ (e : x ≡ u).
              let most = b.upper (omega arith) inside in
              let same : get_or into x 0 + weight_of g x ≡ get_or into u 0 + weight_of g u = ap (λ (z : ℕ). get_or into z 0 + weight_of g z) e in
              omega arith)
              (λ (e : x ≢ u). let old = so.before x (omega arith) early in omega arith)
              (cases_eq x u);
          after = λ x low late. ⊎_elim
              (λ (e : x ≡ u).
              let most = a.upper (omega arith) (omega arith) in
              let same : get_or from x 0 ≡ get_or from u 0 = ap (λ (z : ℕ). get_or from z 0) e in
              omega arith)
              (λ (e : x ≢ u). let old = so.after x (omega arith) late in omega arith)
              (cases_eq x u);
          over = λ x y low early late edge. ⊎_elim
              (λ (e : x ≡ u).
              let most = jumps.upper y (subst (λ (z : ℕ). IsEdge g z y) e edge) (omega arith) late in
              let same : get_or into x 0 + weight_of g x ≡ get_or into u 0 + weight_of g u = ap (λ (z : ℕ). get_or into z 0 + weight_of g z) e in
              omega arith)
              (λ (e : x ≢ u). let old = so.over x y (omega arith) early late edge in omega arith)
              (cases_eq x u);
          reached = has;
        }

-- no jump yet
pub IsRaisedOver-none : (from : List ℕ) (low least v n : ℕ) → IsRaisedOver [] from low least v n n
IsRaisedOver-none from low least v n = record {
  stays = omega arith;
  upper = λ y has early late. absurd (empty y has);
  reached = inl refl;
}
  where
    empty : (y : ℕ) → Contains [] y → ⊥
    empty y (k, lt, e) = omega arith

-- one more jump
pub IsRaisedOver-more : (indices from : List ℕ) (low least v old new after i y : ℕ) → i < length indices → y ≡ get_or indices i 0
    → IsRaisedOver (take i indices) from low least v old new → RaisesIn low y (least + get_or from y 0) v new after
    → IsRaisedOver (take (i + 1) indices) from low least v old after
IsRaisedOver-more indices from low least v old new after i y within is so raises =
    let a = told low y (least + get_or from y 0) v new after raises in
    let up = a.stays in
    let up' = so.stays in
    let P : List ℕ → Type 0 = λ (f : List ℕ). IsRaisedOver f from low least v old after in
    let here : take (i + 1) indices ≡ take i indices ++ y ∷ [] = take_more indices i 0 within ∙ ap (λ (z : ℕ). take i indices ++ z ∷ []) (sym is) in
    subst P (sym here) (record {
      stays = omega arith;
      upper = λ z has early late. ⊎_elim
          (λ (o : Contains (take i indices) z). let most = so.upper z o early late in omega arith)
          (λ (e : y ≡ z).
          let most = a.upper early (omega arith) in
          let same : get_or from y 0 ≡ get_or from z 0 = ap (λ (k : ℕ). get_or from k 0) e in
          omega arith)
          (Contains-push_cases (take i indices) y z has);
      reached = ⊎_elim
          (λ (e : after ≡ new). ⊎_elim
          (λ (f : new ≡ old). inl (e ∙ f))
          (λ (f : (z : ℕ) × Contains (take i indices) z × (low ≤ v) × (v < z) × (new ≡ least + get_or from z 0)). inr (f.0, Contains-append_left (take i indices) (y ∷ []) f.0 f.1, f.2, f.3, e ∙ f.4))
          so.reached)
          (λ (e : (low ≤ v) × (v < y) × (after ≡ least + get_or from y 0)). inr (y, Contains-push (take i indices) y, e.0, e.1, e.2))
          a.reached;
    })

-- the lengths that are added fit
module _ (g : Graph) (form : IsGraph g) (into from : List ℕ) (are : AreLengths g into from) (limit : ℕ) (fits : AllAreShorter g limit) (u : ℕ) (within : u < order_of g) where
  pub until_fits : get_or into u 0 + weight_of g u < limit
  until_fits =
      let best = (are.into_is u within).reached in
      let is : chain_length g best.0 ≡ get_or into u 0 = best.2 in
      let parts = chain_length-lead g best.0 (u ∷ []) in
      let a = sum_by-cons (weight_of g) u [] in
      let short = fits (lead best.0 (u ∷ [])) (IsChain-lead g form best.0 u [] best.1 (within, tt, tt)) in
      omega arith

  pub jump_fits : (y : ℕ) → IsEdge g u y → get_or into u 0 + weight_of g u + get_or from y 0 < limit
  jump_fits y edge =
      let best = (are.into_is u within).reached in
      let is : chain_length g best.0 ≡ get_or into u 0 = best.2 in
      let next = (are.from_is y (form.within u y edge)).reached in
      let is' : chain_length g (y ∷ next.0) ≡ get_or from y 0 = next.2 in
      let parts = chain_length-lead g best.0 (u ∷ y ∷ next.0) in
      let a = sum_by-cons (weight_of g) u (y ∷ next.0) in
      let short = fits (lead best.0 (u ∷ y ∷ next.0)) (IsChain-lead g form best.0 u (y ∷ next.0) best.1 (within, edge, next.1)) in
      omega arith

-- the value of an entry that was read
pub read_of : {X : Type 0} (f : X → ℕ) (xs : List X) (i : ℕ) (x : X) → i < length xs → x ≡ get_or xs i x → get_or (map f xs) i 0 ≡ f x
read_of f xs i x inside is = get_or-map f xs i x 0 inside ∙ ap f (sym is)
