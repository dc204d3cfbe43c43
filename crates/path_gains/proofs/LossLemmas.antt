-- What the longest length loses once one vertex weighs less.
use Rattle.std.proofs.Common.{◌≡◌, ◌≢◌, ℕ, ◌+◌, ◌-◌, ◌<◌, ◌≤◌, max, List, [], ◌∷◌, ◌++◌, ◌/◌, length, get_or, inl, inr, ⊎_elim, ap, sym, subst, arith, length-append}
use Rattle.std.proofs.lemmas.Bool.{cases_lt, cases_eq}
use Rattle.std.proofs.lemmas.List.{get_or_append_left, get_or_push}
use Rattle.std.proofs.lemmas.List.Sums.{sum_by-cons}
use Rattle.path_gains.specs.Gains.{IsGain, IsLoss, with_weight_at}
use Rattle.path_gains.specs.declared.gain.Gain.{Gain}
use Rattle.path_gains.specs.inner.Around.{AreLengths, IsAroundBelow}
use Rattle.path_gains.proofs.WeightLemmas.{weight_here, weight_other, chain_there, chain_back, after_same, before_same}
use Rattle.slack.proofs.GrowthLemmas.{through_below}
use Rattle.slack.proofs.LeadingLemmas.{lead, chain_length-lead, IsChain-lead}
use Rattle.slack.specs.inner.Passes.{LeadsInto}
use Rattle.weighted_dag.specs.Chains.{IsChain, IsLongestLength, chain_length}
use Rattle.weighted_dag.specs.Graphs.{Graph, IsGraph, order_of, weight_of}
use Rattle.weighted_dag.proofs.LengthLemmas.{none_longer_than}

module _ (g : Graph) (form : IsGraph g) (into from : List ℕ) (are : AreLengths g into from) (v around : ℕ) (inside : v < order_of g) (so : IsAroundBelow g into from (order_of g) v around) where
  -- the weight of the vertex is in the length from it
  pub weight_le : weight_of g v ≤ get_or from v 0
  weight_le =
      let low = (are.from_is v inside).none_longer [] (inside, tt, tt) in
      let a = sum_by-cons (weight_of g) v [] in
      omega arith

  module _ (w after : ℕ) (is : after ≡ max around (get_or into v 0 + (get_or from v 0 - weight_of g v) + w)) where
    abbrev h : Graph
    h = with_weight_at g v w

    at_v : (x : ℕ) (c r : List ℕ) → x ≡ v → IsChain g (x ∷ c) → LeadsInto g x r → chain_length g r + chain_length h (x ∷ c) ≤ after
    at_v x c r e chain leads =
        let rest = after_same g v w form x c (omega arith) chain in
        let here = weight_here g v w inside in
        let there : weight_of h x ≡ weight_of h v = ap (weight_of h) e in
        let own : weight_of g x ≡ weight_of g v = ap (weight_of g) e in
        let a = sum_by-cons (weight_of g) x c in
        let b = sum_by-cons (weight_of h) x c in
        let below = (are.into_is v inside).none_longer r (subst (λ (z : ℕ). LeadsInto g z r) e leads) in
        let above = (are.from_is v inside).none_longer c (subst (λ (z : ℕ). IsChain g (z ∷ c)) e chain) in
        let first : chain_length g (x ∷ c) ≡ chain_length g (v ∷ c) = ap (λ (z : ℕ). chain_length g (z ∷ c)) e in
        omega arith

    bound : (x : ℕ) (c r : List ℕ) → x < v → IsChain g (x ∷ c) → LeadsInto g x r → chain_length g r + chain_length h (x ∷ c) ≤ after
    bound x [] r early chain leads =
        let same = weight_other g v w x (λ (e : x ≡ v). omega arith) in
        let b = sum_by-cons (weight_of h) x [] in
        let low = (are.into_is x chain.0).none_longer r leads in
        let most = so.before x chain.0 early in
        omega arith
    bound x (y ∷ c) r early chain leads =
        let same = weight_other g v w x (λ (e : x ≡ v). omega arith) in
        let b = sum_by-cons (weight_of h) x (y ∷ c) in
        let a = sum_by-cons (weight_of g) x r in
        ⊎_elim
        (λ (l : y < v). let rest = bound y c (x ∷ r) l chain.2 (chain.1, leads) in omega arith)
        (λ (l : v ≤ y). ⊎_elim
        (λ (e : y ≡ v). let rest = at_v y c (x ∷ r) e chain.2 (chain.1, leads) in omega arith)
        (λ (e : y ≢ v).
        let there = weight_other g v w y e in
        let after_y = after_same g v w form y c l chain.2 in
        let d = sum_by-cons (weight_of g) y c in
        let k = sum_by-cons (weight_of h) y c in
        let low = (are.into_is x chain.0).none_longer r leads in
        let high = (are.from_is y (form.within x y chain.1)).none_longer c chain.2 in
        let most = so.over x y chain.0 early (omega arith) chain.1 in
        omega arith)
        (cases_eq y v))
        (cases_lt y v)

    none_longer : (c : List ℕ) → IsChain g c → chain_length h c ≤ after
    none_longer [] chain = omega arith
    none_longer (x ∷ c) chain = ⊎_elim
        (λ (l : x < v). let most = bound x c [] l chain tt in omega arith)
        (λ (l : v ≤ x). ⊎_elim
        (λ (e : x ≡ v). let most = at_v x c [] e chain tt in omega arith)
        (λ (e : x ≢ v).
        let there = weight_other g v w x e in
        let rest = after_same g v w form x c l chain in
        let d = sum_by-cons (weight_of g) x c in
        let k = sum_by-cons (weight_of h) x c in
        let high = (are.from_is x chain.0).none_longer c chain in
        let most = so.after x chain.0 (omega arith) in
        omega arith)
        (cases_eq x v))
        (cases_lt x v)

    pub longest_with : IsLongestLength h after
    longest_with = ⊎_elim
        (λ (l : get_or into v 0 + (get_or from v 0 - weight_of g v) + w ≤ around).
        let c = so.reached.0 in
        let long : chain_length h c ≡ after = let n = so.reached.1.always w in omega arith in
        (c, record { chain = chain_there g v w c so.reached.1.chain; none_longer = λ d hd. let up = none_longer d (chain_back g v w d hd) in omega arith }, long))
        (λ (l : around < get_or into v 0 + (get_or from v 0 - weight_of g v) + w).
        let below = (are.into_is v inside).reached in
        let above = (are.from_is v inside).reached in
        let c : List ℕ = lead below.0 (v ∷ above.0) in
        let chain = IsChain-lead g form below.0 v above.0 below.1 above.1 in
        let long : chain_length h c ≡ after =
        let parts = chain_length-lead h below.0 (v ∷ above.0) in
        let a = sum_by-cons (weight_of g) v above.0 in
        let b = sum_by-cons (weight_of h) v above.0 in
        let here = weight_here g v w inside in
        let first = before_same g v w form v below.0 (omega arith) below.1 in
        let rest = after_same g v w form v above.0 (omega arith) above.1 in
        let low : chain_length g below.0 ≡ get_or into v 0 = below.2 in
        let high : chain_length g (v ∷ above.0) ≡ get_or from v 0 = above.2 in
        omega arith in
        (c, record { chain = chain_there g v w c chain; none_longer = λ d hd. let up = none_longer d (chain_back g v w d hd) in omega arith }, long))
        (⊎_elim (λ (l : around < get_or into v 0 + (get_or from v 0 - weight_of g v) + w). inr l) (λ (l : get_or into v 0 + (get_or from v 0 - weight_of g v) + w ≤ around). inl l) (cases_lt around (get_or into v 0 + (get_or from v 0 - weight_of g v) + w)))

  module _ (most : ℕ) (longest : IsLongestLength g most) where
    pub through_le : get_or into v 0 + get_or from v 0 ≤ most
    through_le = through_below g form v inside (get_or into v 0) (get_or from v 0) most (are.into_is v inside) (are.from_is v inside) (none_longer_than g most longest) longest

    pub around_le : around ≤ most
    around_le =
        let c = so.reached.1 in
        let up = none_longer_than g most longest so.reached.0 c.chain in
        let n = c.length in
        omega arith

    pub IsLoss-lengths : (w lost loss : ℕ) → lost + w ≡ weight_of g v → loss ≡ most - max around (get_or into v 0 + get_or from v 0 - lost) → IsLoss g v w loss
    IsLoss-lengths w lost loss less is =
        let own = weight_le in
        let a = through_le in
        let b = around_le in
        let after : ℕ = max around (get_or into v 0 + get_or from v 0 - lost) in
        let same : after ≡ max around (get_or into v 0 + (get_or from v 0 - weight_of g v) + w) = omega arith in
        let all : most ≡ after + loss = omega arith in
        record { after = after; changed = longest_with w after same; before = subst (IsLongestLength g) all longest }

    pub IsGain-lengths : (gain : Gain) → gain.none ≡ most - max around (get_or into v 0 + get_or from v 0 - weight_of g v)
        → gain.half ≡ most - max around (get_or into v 0 + get_or from v 0 - (weight_of g v - weight_of g v / 2)) → IsGain g v gain
    IsGain-lengths gain none half = record {
      none = IsLoss-lengths 0 (weight_of g v) gain.none (omega arith) none;
      half = IsLoss-lengths (weight_of g v / 2) (weight_of g v - weight_of g v / 2) gain.half (omega arith) half;
    }

-- one more entry as asked
pub pushed_each : {X : Type 0} (P : ℕ → X → Type 0) (xs : List X) (i : ℕ) (x : X) → (length xs ≡ i) × ((k : ℕ) (d : X) → k < i → P k (get_or xs k d)) → P i x
    → (length (xs ++ x ∷ []) ≡ i + 1) × ((k : ℕ) (d : X) → k < i + 1 → P k (get_or (xs ++ x ∷ []) k d))
pushed_each P xs i x so is =
    let size : length xs ≡ i = so.0 in (
      let n = length-append xs (x ∷ []) in omega arith,
      λ k d h. ⊎_elim
          (λ (l : k < i). subst (P k) (sym (get_or_append_left xs (x ∷ []) d k (omega arith))) (so.1 k d l))
          (λ (l : i ≤ k). let e : k ≡ i = omega arith in subst (P k) (sym (get_or_push xs x d k (omega arith))) (subst (λ (j : ℕ). P j x) (sym e) is))
          (cases_lt k i),
    )
