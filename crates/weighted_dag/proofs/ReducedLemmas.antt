-- A graph and the graph without the edges that have a detour: what can be reached, and the longest lengths.
use Rattle.std.proofs.Common.{◌≡◌, ℕ, zero, suc, ◌+◌, ◌<◌, ◌≤◌, List, [], ◌∷◌, ◌++◌, length, get_or, ◌↔◌, ⊎_elim, ap, sum_by, arith}
use Rattle.std.proofs.lemmas.List.Sums.{sum_by-cons, sum_by-append}
use Rattle.weighted_dag.specs.Graphs.{Graph, IsGraph, IsEdge, order_of, weight_of}
use Rattle.weighted_dag.specs.Chains.{IsChain, LeadsTo, IsLongest, IsLongestLength, chain_length}
use Rattle.weighted_dag.specs.Reductions.{IsReachable, HasDetour, IsKeptEdge}
use Rattle.weighted_dag.specs.inner.ReductionSteps.{IsReducedAt}
use Rattle.weighted_dag.proofs.PathLemmas.{IsChain-join, IsReachable-cases, reachable_by_edge, reachable_later, reachable_trans}

module _ (g r : Graph) (form : IsGraph g) (form' : IsGraph r) (same : r.weights ≡ g.weights) (reduced : (a : ℕ) → IsReducedAt g r a) where
  -- the orders are the same
  order : order_of r ≡ order_of g
  order = ap length same

  lengths : (c : List ℕ) → chain_length r c ≡ chain_length g c
  lengths c = ap (λ (ws : List ℕ). sum_by (λ v. get_or ws v 0) c) same

  pub edges : (a b : ℕ) → IsEdge r a b ↔ IsKeptEdge g a b
  edges a b = ((reduced a).kept b, λ h. ⊎_elim (λ (e : IsEdge r a b). e) (λ (d : HasDetour g a b). absurd (h.1 d)) ((reduced a).others b h.0))

  LeadsTo-up : (v : ℕ) (c : List ℕ) → LeadsTo r v c → LeadsTo g v c
  LeadsTo-up v [] h = tt
  LeadsTo-up v (w ∷ c) h = ((reduced v).kept w h).0

  IsChain-up : (c : List ℕ) → IsChain r c → IsChain g c
  IsChain-up [] h = tt
  IsChain-up (v ∷ c) h = (let within = h.0 in let o = order in omega arith, LeadsTo-up v c h.1, IsChain-up c h.2)

  -- what is reached in the whole graph is reached in the reduced one: by the distance of the ends
  reach_down : (n a b : ℕ) → b < a + n → IsReachable g a b → IsReachable r a b
  reach_down zero a b near h = let later = reachable_later g form a b h in absurd (omega arith)
  reach_down (suc n) a b near h =
      let through : HasDetour g a b → IsReachable r a b =
      λ (d : HasDetour g a b).
      let x : ℕ = d.0 in
      let e : IsEdge g a x = d.2.1 in
      let rest : IsReachable g x b = (d.1, d.2.2) in
      let l = form.later a x e in
      let m = reachable_later g form x b rest in
      reachable_trans r a x b (reach_down n a x (omega arith) (reachable_by_edge g form a x e)) (reach_down n x b (omega arith) rest)
      in
      ⊎_elim
      (λ (e : IsEdge g a b). ⊎_elim
      (λ (k : IsEdge r a b). reachable_by_edge r form' a b k)
      (λ (d : HasDetour g a b). through d)
      ((reduced a).others b e))
      (λ (d : HasDetour g a b). through d)
      (IsReachable-cases g a b h)

  pub reachability : (a b : ℕ) → IsReachable r a b ↔ IsReachable g a b
  reachability a b = (λ h. (h.0, IsChain-up (a ∷ h.0 ++ b ∷ []) h.1), λ h. reach_down (b + 1) a b (omega arith) h)

  -- a chain of the whole graph has a chain of the reduced one that is no shorter
  longer : (v : ℕ) (c : List ℕ) → IsChain g (v ∷ c) → (d : List ℕ) × IsChain r (v ∷ d) × (chain_length g (v ∷ c) ≤ chain_length r (v ∷ d))
  longer v [] h =
      let o = order in let within = h.0 in
      let e = lengths (v ∷ []) in ([], (omega arith, tt, tt), omega arith)
  longer v (w ∷ c) h =
      let next = longer w c h.2 in
      let path = reach_down (w + 1) v w (omega arith) (reachable_by_edge g form v w h.1) in
      let joined = IsChain-join r (v ∷ path.0) w next.0 path.1 next.1 in
      let rest : chain_length g (w ∷ c) ≤ chain_length r (w ∷ next.0) = next.2 in
      let whole = sum_by-cons (weight_of g) v (w ∷ c) in
      let first = sum_by-cons (weight_of r) v (path.0 ++ w ∷ next.0) in
      let parts = sum_by-append (weight_of r) path.0 (w ∷ next.0) in
      let weight : weight_of r v ≡ weight_of g v = ap (λ (ws : List ℕ). get_or ws v 0) same in
      (path.0 ++ w ∷ next.0, joined, omega arith)

  longer_any : (c : List ℕ) → IsChain g c → (d : List ℕ) × IsChain r d × (chain_length g c ≤ chain_length r d)
  longer_any [] h = ([], tt, zero_le)
    where
      zero_le : chain_length g [] ≤ chain_length r []
      zero_le = omega arith
  longer_any (v ∷ c) h = let l = longer v c h in (v ∷ l.0, l.1, l.2)

  pub longest : (n : ℕ) → IsLongestLength r n ↔ IsLongestLength g n
  longest n = (
    λ h.
        let c : List ℕ = h.0 in
        let long : IsLongest r c = h.1 in
        let is : chain_length r c ≡ n = h.2 in
        let e = lengths c in (
          c,
          record {
            chain = IsChain-up c long.chain;
            none_longer = λ d k. let m = longer_any d k in let up = long.none_longer m.0 m.1 in let le = m.2 in omega arith;
          },
          omega arith,
        ),
    λ h.
        let c : List ℕ = h.0 in
        let long : IsLongest g c = h.1 in
        let is : chain_length g c ≡ n = h.2 in
        let m = longer_any c long.chain in
        let d : List ℕ = m.0 in
        let chain : IsChain r d = m.1 in
        let le : chain_length g c ≤ chain_length r d = m.2 in
        let e = lengths d in
        let up = long.none_longer d (IsChain-up d chain) in (
          d,
          record {
            chain = chain;
            none_longer = λ f k. let q = lengths f in let most = long.none_longer f (IsChain-up f k) in omega arith;
          },
          omega arith,
        ),
  )
