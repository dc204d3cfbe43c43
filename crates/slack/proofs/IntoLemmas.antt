-- The greatest lengths of what leads to each vertex, from the first vertex on.
use Rattle.std.proofs.Common.{◌≡◌, ◌≢◌, ℕ, ◌+◌, ◌<◌, ◌≤◌, max, List, [], ◌∷◌, ◌++◌, length, get_or, set, take, Contains, inl, inr, ⊎_elim, sym, ap, ◌∙◌, subst, arith, get_or-set_same, get_or-set_other}
use Rattle.std.proofs.lemmas.Bool.{cases_lt, cases_eq}
use Rattle.std.proofs.lemmas.List.{take_more}
use Rattle.std.proofs.lemmas.List.Elements.{Contains-append_left, Contains-push, Contains-push_cases}
use Rattle.std.proofs.lemmas.List.Sums.{sum_by-cons}
use Rattle.weighted_dag.specs.Graphs.{Graph, IsGraph, IsEdge, order_of, weight_of, successors_of}
use Rattle.weighted_dag.specs.Chains.{AllAreShorter, chain_length}
use Rattle.slack.specs.inner.Passes.{LeadsInto, IsLongestInto, RaisesAt}
use Rattle.slack.proofs.LeadingLemmas.{lead, chain_length-lead, IsChain-lead}

-- the nearest of the list is below u
abbrev pub BeginsBelow : ℕ → List ℕ → Type 0
BeginsBelow u [] = Unit {0}
BeginsBelow u (x ∷ _) = x < u

-- the greatest length of what leads to v by the vertices below u
pub record IsLongestBelow (g : Graph) (u v n : ℕ) : Type 0 where
  pub reached : (c : List ℕ) × LeadsInto g v c × BeginsBelow u c × (chain_length g c ≡ n)
  pub none_longer : (c : List ℕ) → LeadsInto g v c → BeginsBelow u c → chain_length g c ≤ n

-- the vertices below u have been passed on
pub record IsPassedBelow (g : Graph) (u : ℕ) (lengths : List ℕ) : Type 0 where
  pub entries : length lengths ≡ order_of g
  pub longest : (k : ℕ) → k < order_of g → IsLongestBelow g u k (get_or lengths k 0)

-- what leads to a vertex is below it
begins_below : (g : Graph) → IsGraph g → (v : ℕ) (c : List ℕ) → LeadsInto g v c → BeginsBelow v c
begins_below g form v [] l = tt
begins_below g form v (x ∷ c) l = form.later x v l.0

begins_sooner : (v u : ℕ) (c : List ℕ) → v ≤ u → BeginsBelow v c → BeginsBelow u c
begins_sooner v u [] h b = tt
begins_sooner v u (x ∷ c) h b = omega arith

-- all that leads to v is known once the vertices below v have been passed on
pub IsLongestInto-below : (g : Graph) → IsGraph g → (u v n : ℕ) → v ≤ u → IsLongestBelow g u v n → IsLongestInto g v n
IsLongestInto-below g form u v n low so = record {
  reached = (so.reached.0, so.reached.1, so.reached.3);
  none_longer = λ c l. so.none_longer c l (begins_sooner v u c low (begins_below g form v c l));
}

-- at first nothing has been passed on
pub IsPassedBelow-none : (g : Graph) (lengths : List ℕ) → length lengths ≡ order_of g → ((k : ℕ) → k < order_of g → get_or lengths k 0 ≡ 0) → IsPassedBelow g 0 lengths
IsPassedBelow-none g lengths entries zero = record {
  entries = entries;
  longest = λ k high. record { reached = ([], tt, tt, sym (zero k high)); none_longer = none_longer k (get_or lengths k 0) };
}
  where
    none_longer : (k n : ℕ) (c : List ℕ) → LeadsInto g k c → BeginsBelow 0 c → chain_length g c ≤ n
    none_longer k n [] l b = omega arith
    none_longer k n (x ∷ c) l b = absurd (omega arith)

-- one more vertex is passed on to its successors
module _ (g : Graph) (form : IsGraph g) (u : ℕ) (inside : u < order_of g) (lengths new : List ℕ) (w : ℕ) (so : IsPassedBelow g u lengths) (weight : w ≡ weight_of g u) (raises : (k : ℕ) → RaisesAt (successors_of g u) (get_or lengths u 0 + w) lengths new k) where
  at_u : IsLongestInto g u (get_or lengths u 0)
  at_u = IsLongestInto-below g form u u (get_or lengths u 0) (omega arith) (so.longest u inside)

  longest_raised : (k : ℕ) → k < order_of g → IsEdge g u k → get_or new k 0 ≡ max (get_or lengths k 0) (get_or lengths u 0 + w) → IsLongestBelow g (u + 1) k (get_or new k 0)
  longest_raised k high edge is = record {
    reached = ⊎_elim
        (λ (l : get_or lengths k 0 < get_or lengths u 0 + w).
        let best = at_u.reached in
        let long : chain_length g best.0 ≡ get_or lengths u 0 = best.2 in
        let sum = sum_by-cons (weight_of g) u best.0 in
        (u ∷ best.0, (edge, best.1), omega arith, omega arith))
        (λ (l : get_or lengths u 0 + w ≤ get_or lengths k 0).
        let best = (so.longest k high).reached in
        let long : chain_length g best.0 ≡ get_or lengths k 0 = best.3 in
        (best.0, best.1, begins_sooner u (u + 1) best.0 (omega arith) best.2, omega arith))
        (cases_lt (get_or lengths k 0) (get_or lengths u 0 + w));
    none_longer = none_longer;
  }
    where
      none_longer : (c : List ℕ) → LeadsInto g k c → BeginsBelow (u + 1) c → chain_length g c ≤ get_or new k 0
      none_longer [] l b = omega arith
      none_longer (x ∷ c) l b = ⊎_elim
          (λ (e : x ≡ u).
          let most = at_u.none_longer c (subst (λ (z : ℕ). LeadsInto g z c) e l.1) in
          let sum = sum_by-cons (weight_of g) x c in
          let same : weight_of g x ≡ weight_of g u = ap (weight_of g) e in
          omega arith)
          (λ (e : x ≢ u). let most = (so.longest k high).none_longer (x ∷ c) l (omega arith) in omega arith)
          (cases_eq x u)

  longest_other : (k : ℕ) → k < order_of g → (IsEdge g u k → ⊥) → get_or new k 0 ≡ get_or lengths k 0 → IsLongestBelow g (u + 1) k (get_or new k 0)
  longest_other k high none is = record {
    reached =
        let best = (so.longest k high).reached in
        let long : chain_length g best.0 ≡ get_or lengths k 0 = best.3 in
        (best.0, best.1, begins_sooner u (u + 1) best.0 (omega arith) best.2, omega arith);
    none_longer = none_longer;
  }
    where
      none_longer : (c : List ℕ) → LeadsInto g k c → BeginsBelow (u + 1) c → chain_length g c ≤ get_or new k 0
      none_longer [] l b = omega arith
      none_longer (x ∷ c) l b = ⊎_elim
          (λ (e : x ≡ u). absurd (none (subst (λ (z : ℕ). IsEdge g z k) e l.0)))
          (λ (e : x ≢ u). let most = (so.longest k high).none_longer (x ∷ c) l (omega arith) in omega arith)
          (cases_eq x u)

  pub IsPassedBelow-more : length new ≡ length lengths → IsPassedBelow g (u + 1) new
  IsPassedBelow-more same = record {
    entries = same ∙ so.entries;
    longest = λ k high. ⊎_elim
        (λ (r : Contains (successors_of g u) k × (get_or new k 0 ≡ max (get_or lengths k 0) (get_or lengths u 0 + w))). longest_raised k high r.0 r.1)
        (λ (r : (¬ Contains (successors_of g u) k) × (get_or new k 0 ≡ get_or lengths k 0)). longest_other k high r.0 r.1)
        (raises k);
  }

-- what leads to a vertex fits with its weight
pub through_fits : (g : Graph) → IsGraph g → (u : ℕ) → u < order_of g → (lengths : List ℕ) (limit : ℕ) → IsPassedBelow g u lengths → AllAreShorter g limit → get_or lengths u 0 + weight_of g u < limit
through_fits g form u inside lengths limit so shorter =
    let best = (so.longest u inside).reached in
    let long : chain_length g best.0 ≡ get_or lengths u 0 = best.3 in
    let all = chain_length-lead g best.0 (u ∷ []) in
    let one = sum_by-cons (weight_of g) u [] in
    let less = shorter (lead best.0 (u ∷ [])) (IsChain-lead g form best.0 u [] best.1 (inside, tt, tt)) in
    omega arith

-- one more index is raised
pub RaisesAt-more : (indices old new : List ℕ) (least i : ℕ) → i < length indices → get_or indices i 0 < length new → ((k : ℕ) → RaisesAt (take i indices) least old new k) → (k : ℕ) → RaisesAt (take (i + 1) indices) least old (set new (get_or indices i 0) (max (get_or new (get_or indices i 0) 0) least)) k
RaisesAt-more indices old new least i within room so k =
    let p : ℕ = get_or indices i 0 in
    let v : ℕ = max (get_or new p 0) least in
    let P : List ℕ → Type 0 = λ (f : List ℕ). RaisesAt f least old (set new p v) k in
    subst P (sym (take_more indices i 0 within)) (⊎_elim
    (λ (e : k ≡ p).
    let here : get_or (set new p v) k 0 ≡ v = ap (λ (j : ℕ). get_or (set new p v) j 0) e ∙ get_or-set_same new p v 0 room in
    let same : get_or new k 0 ≡ get_or new p 0 = ap (λ (j : ℕ). get_or new j 0) e in
    let last : Contains (take i indices ++ p ∷ []) k = subst (λ (j : ℕ). Contains (take i indices ++ p ∷ []) j) (sym e) (Contains-push (take i indices) p) in
    ⊎_elim
    (λ (r : Contains (take i indices) k × (get_or new k 0 ≡ max (get_or old k 0) least)). inl (last, let is : get_or new k 0 ≡ max (get_or old k 0) least = r.1 in omega arith))
    (λ (r : (¬ Contains (take i indices) k) × (get_or new k 0 ≡ get_or old k 0)). inl (last, let is : get_or new k 0 ≡ get_or old k 0 = r.1 in omega arith))
    (so k))
    (λ (e : k ≢ p).
    let stays : get_or (set new p v) k 0 ≡ get_or new k 0 = get_or-set_other new p k v 0 e in
    ⊎_elim
    (λ (r : Contains (take i indices) k × (get_or new k 0 ≡ max (get_or old k 0) least)). inl (Contains-append_left (take i indices) (p ∷ []) k r.0, stays ∙ r.1))
    (λ (r : (¬ Contains (take i indices) k) × (get_or new k 0 ≡ get_or old k 0)). inr
    ((λ h. ⊎_elim (λ (o : Contains (take i indices) k). r.0 o) (λ (f : p ≡ k). e (sym f)) (Contains-push_cases (take i indices) p k h)), stays ∙ r.1))
    (so k))
    (cases_eq k p))
