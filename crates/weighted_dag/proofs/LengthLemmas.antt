-- The greatest lengths of chains that begin with a vertex, from those of its successors.
use Rattle.std.proofs.Common.{◌≡◌, ◌≢◌, ℕ, ◌+◌, ◌-◌, ◌<◌, ◌≤◌, List, [], ◌∷◌, length, get_or, set, take, drop, sum, max, All, Contains, ◌⊎◌, inl, inr, ⊎_elim, sym, ap, ◌∙◌, subst, arith, get_or-set_same, get_or-set_other, length-set}
use Rattle.std.proofs.lemmas.Bool.{cases_lt, cases_eq}
use Rattle.std.proofs.lemmas.List.Elements.{All-contains, All-weaker, All-more, Contains-get_or, All-nil, All-cons}
use Rattle.std.proofs.lemmas.List.Sums.{sum_by-cons, sum_by-drop_more, sum_by-take-drop}
use Rattle.std.proofs.lemmas.List.{drop-drop}
use Rattle.weighted_dag.specs.Graphs.{Graph, IsGraph, IsEdge, order_of, weight_of, successors_of, with_weights}
use Rattle.weighted_dag.specs.Chains.{IsChain, AllAreShorter, IsLongestFrom, IsLongestLength, chain_length, NoneIsLonger, IsLongest}

-- the numbers of the vertices from v on are their greatest lengths, and most is the greatest of them
pub record IsKnownFrom (g : Graph) (v : ℕ) (lengths : List ℕ) (most : ℕ) : Type 0 where
  pub entries : length lengths ≡ order_of g
  pub from : (k : ℕ) → v ≤ k → k < order_of g → IsLongestFrom g k (get_or lengths k 0)
  pub upper : (k : ℕ) → v ≤ k → k < order_of g → get_or lengths k 0 ≤ most
  pub reached : (most ≡ 0) ⊎ ((k : ℕ) × (k < order_of g) × IsLongestFrom g k most)

-- the greatest of the numbers at the indices of a prefix, or 0
pub record IsGreatestAt (numbers prefix indices : List ℕ) (most : ℕ) : Type 0 where
  pub upper : All (λ p. get_or numbers p 0 ≤ most) prefix
  pub reached : (most ≡ 0) ⊎ ((p : ℕ) × Contains indices p × (get_or numbers p 0 ≡ most))

pub IsGreatestAt-more : (numbers indices : List ℕ) (i most : ℕ) → i < length indices → IsGreatestAt numbers (take i indices) indices most → IsGreatestAt numbers (take (i + 1) indices) indices (max most (get_or numbers (get_or indices i 0) 0))
IsGreatestAt-more numbers indices i most inside so =
    let p : ℕ = get_or indices i 0 in
    let x : ℕ = get_or numbers p 0 in
    let old = All-weaker (λ q. get_or numbers q 0 ≤ most) (λ q. get_or numbers q 0 ≤ max most x) (λ q (h : get_or numbers q 0 ≤ most). omega arith) (take i indices) so.upper in
    record {
      upper = All-more (λ q. get_or numbers q 0 ≤ max most x) indices i 0 inside old (omega arith);
      reached = ⊎_elim
          (λ (l : most < x). inr (p, Contains-get_or indices i 0 inside, omega arith))
          (λ (l : x ≤ most). let e : max most x ≡ most = omega arith in
          ⊎_elim (λ (n : most ≡ 0). inl (e ∙ n)) (λ (s : (q : ℕ) × Contains indices q × (get_or numbers q 0 ≡ most)). inr (s.0, s.1, s.2 ∙ sym e)) so.reached)
          (cases_lt most x);
    }

pub IsLongestFrom-step : (g : Graph) (v : ℕ) (lengths : List ℕ) (most' after : ℕ) → IsGraph g → v < order_of g → IsKnownFrom g (v + 1) lengths most' → IsGreatestAt lengths (successors_of g v) (successors_of g v) after → IsLongestFrom g v (weight_of g v + after)
IsLongestFrom-step g v lengths most' after form within known most = record {
  reached = ⊎_elim
      (λ (none : after ≡ 0).
      let one = sum_by-cons (weight_of g) v [] in
      ([], (within, tt, tt), omega arith))
      (λ (some : (p : ℕ) × Contains (successors_of g v) p × (get_or lengths p 0 ≡ after)).
      let e : IsEdge g v some.0 = some.1 in
      let later = form.later v some.0 e in
      let best = known.from some.0 (omega arith) (form.within v some.0 e) in
      let rest = best.reached in
      let is : get_or lengths some.0 0 ≡ after = some.2 in
      let all = sum_by-cons (weight_of g) v (some.0 ∷ rest.0) in
      let long : chain_length g (some.0 ∷ rest.0) ≡ get_or lengths some.0 0 = rest.2 in
      (some.0 ∷ rest.0, (within, e, rest.1), omega arith))
      most.reached;
  none_longer = none_longer;
}
  where
    none_longer : (c : List ℕ) → IsChain g (v ∷ c) → chain_length g (v ∷ c) ≤ weight_of g v + after
    none_longer [] h = let one = sum_by-cons (weight_of g) v [] in omega arith
    none_longer (p ∷ c) h =
        let all = sum_by-cons (weight_of g) v (p ∷ c) in
        let e : IsEdge g v p = h.1 in
        let later = form.later v p e in
        let best = (known.from p (omega arith) (form.within v p e)).none_longer c h.2 in
        let upper = All-contains (λ q. get_or lengths q 0 ≤ after) (successors_of g v) p most.upper e in
        omega arith

-- other weights make a graph of a graph
pub IsGraph-with_weights : (g : Graph) (ws : List ℕ) → IsGraph g → length ws ≡ order_of g → IsGraph (with_weights g ws)
IsGraph-with_weights g ws form same =
    let small = form.small in
    let lists = form.lists in
    record {
      small = omega arith;
      lists = omega arith;
      later = form.later;
      within = λ a b e. let w = form.within a b e in omega arith;
      rising = form.rising;
    }

-- the successors of a vertex are vertices
pub successors_within : (g : Graph) → IsGraph g → (v : ℕ) → All (λ p. p < order_of g) (successors_of g v)
successors_within g form v k d h = form.within v (get_or (successors_of g v) k d) (Contains-get_or (successors_of g v) k d h)

-- fewer of the last numbers have no greater sum
sum-drop-le : (xs : List ℕ) (i j : ℕ) → i ≤ j → sum (drop j xs) ≤ sum (drop i xs)
sum-drop-le xs i j low =
    let parts = sum_by-take-drop (λ (x : ℕ). x) (drop i xs) (j - i) in
    let all : i + (j - i) ≡ j = omega arith in
    let same : sum (drop (j - i) (drop i xs)) ≡ sum (drop j xs) = ap sum (drop-drop (j - i) i xs ∙ ap (λ (n : ℕ). drop n xs) all) in
    omega arith

-- a chain weighs no more than all vertices from its first on
chain_length-le-sum_by-drop : (g : Graph) → IsGraph g → (v : ℕ) (c : List ℕ) → IsChain g (v ∷ c) → chain_length g (v ∷ c) ≤ sum (drop v g.weights)
chain_length-le-sum_by-drop g form v [] h =
    let one = sum_by-cons (weight_of g) v [] in
    let here = sum_by-drop_more (λ (x : ℕ). x) g.weights v 0 h.0 in
    omega arith
chain_length-le-sum_by-drop g form v (w ∷ c) h =
    let one = sum_by-cons (weight_of g) v (w ∷ c) in
    let here = sum_by-drop_more (λ (x : ℕ). x) g.weights v 0 h.0 in
    let rest = chain_length-le-sum_by-drop g form w c h.2 in
    let later = form.later v w h.1 in
    let less = sum-drop-le g.weights (v + 1) w (omega arith) in
    omega arith

-- a chain weighs no more than all vertices together
pub chain_length-le-sum : (g : Graph) → IsGraph g → (c : List ℕ) → IsChain g c → chain_length g c ≤ sum g.weights
chain_length-le-sum g form [] h = omega arith
chain_length-le-sum g form (v ∷ c) h =
    let all = sum_by-take-drop (λ (x : ℕ). x) g.weights v in
    let most = chain_length-le-sum_by-drop g form v c h in
    omega arith

-- where each chain is shorter than a limit, so is the greatest length from a vertex
pub IsLongestFrom-lt : (g : Graph) (v n limit : ℕ) → IsLongestFrom g v n → AllAreShorter g limit → n < limit
IsLongestFrom-lt g v n limit so shorter =
    let c = so.reached in
    let is : chain_length g (v ∷ c.0) ≡ n = c.2 in
    let most = shorter (v ∷ c.0) c.1 in
    omega arith

pub IsKnownFrom-step : (g : Graph) (v : ℕ) (lengths : List ℕ) (longest w after : ℕ) → IsGraph g → v < order_of g → w ≡ weight_of g v → IsKnownFrom g (v + 1) lengths longest → IsGreatestAt lengths (successors_of g v) (successors_of g v) after → IsKnownFrom g v (set lengths v (w + after)) (max longest (w + after))
IsKnownFrom-step g v lengths longest w after form within is known most =
    let entries = known.entries in
    let inside : v < length lengths = omega arith in
    let here : get_or (set lengths v (w + after)) v 0 ≡ w + after = get_or-set_same lengths v (w + after) 0 inside in
    let new : IsLongestFrom g v (w + after) = subst (λ (x : ℕ). IsLongestFrom g v (x + after)) (sym is) (IsLongestFrom-step g v lengths longest after form within known most) in
    record {
      entries = length-set lengths v (w + after) ∙ known.entries;
      from = λ k low high. ⊎_elim
          (λ (e : k ≡ v).
          let value : get_or (set lengths v (w + after)) k 0 ≡ w + after = ap (λ (j : ℕ). get_or (set lengths v (w + after)) j 0) e ∙ here in
          subst (λ (j : ℕ). IsLongestFrom g j (get_or (set lengths v (w + after)) k 0)) (sym e)
          (subst (λ (n : ℕ). IsLongestFrom g v n) (sym value) new))
          (λ (e : k ≢ v). subst (λ (n : ℕ). IsLongestFrom g k n) (sym (get_or-set_other lengths v k (w + after) 0 e)) (known.from k (omega arith) high))
          (cases_eq k v);
      upper = λ k low high. ⊎_elim
          (λ (e : k ≡ v). let value : get_or (set lengths v (w + after)) k 0 ≡ w + after = ap (λ (j : ℕ). get_or (set lengths v (w + after)) j 0) e ∙ here in omega arith)
          (λ (e : k ≢ v). let same = get_or-set_other lengths v k (w + after) 0 e in let old = known.upper k (omega arith) high in omega arith)
          (cases_eq k v);
      reached = ⊎_elim
          (λ (l : longest < w + after). inr (v, within, subst (λ (n : ℕ). IsLongestFrom g v n) (omega arith) new))
          (λ (l : w + after ≤ longest). let e : longest ≡ max longest (w + after) = omega arith in
          ⊎_elim
          (λ (z : longest ≡ 0). inl (sym e ∙ z))
          (λ (s : (k : ℕ) × (k < order_of g) × IsLongestFrom g k longest). inr (s.0, s.1, subst (λ (n : ℕ). IsLongestFrom g s.0 n) e s.2))
          known.reached)
          (cases_lt longest (w + after));
    }

-- once all vertices are known, the greatest is the longest length of the graph
pub IsLongestLength-known : (g : Graph) (v : ℕ) (lengths : List ℕ) (most : ℕ) → v ≡ 0 → IsKnownFrom g v lengths most → IsLongestLength g most
IsLongestLength-known g v lengths most zero known = ⊎_elim
    (λ (z : most ≡ 0). ([], record { chain = tt; none_longer = λ c h. let up = none_longer c h in omega arith }, sym z))
    (λ (s : (k : ℕ) × (k < order_of g) × IsLongestFrom g k most).
    let best = s.2.reached in
    let is : chain_length g (s.0 ∷ best.0) ≡ most = best.2 in
    (s.0 ∷ best.0, record { chain = best.1; none_longer = λ c h. let up = none_longer c h in omega arith }, is))
    known.reached
  where
    none_longer : (c : List ℕ) → IsChain g c → chain_length g c ≤ most
    none_longer [] h = omega arith
    none_longer (x ∷ c) h =
        let low = (known.from x (omega arith) h.0).none_longer c h in
        let high = known.upper x (omega arith) h.0 in
        omega arith

-- no chain is longer than the longest length
pub none_longer_than : (g : Graph) (most : ℕ) → IsLongestLength g most → NoneIsLonger g most
none_longer_than g most longest c h =
    let best : IsLongest g longest.0 = longest.1 in
    let is : chain_length g longest.0 ≡ most = longest.2 in
    let up = best.none_longer c h in
    omega arith

-- the vertices of a chain are vertices, and they rise
pub chain_within : (g : Graph) (c : List ℕ) → IsChain g c → All (λ v. v < order_of g) c
chain_within g [] chain = All-nil (λ v. v < order_of g)
chain_within g (v ∷ c) chain = All-cons (λ u. u < order_of g) v c chain.0 (chain_within g c chain.2)
