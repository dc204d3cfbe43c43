-- The first longest chain, vertex by vertex.
use Rattle.std.proofs.Common.{◌≡◌, ◌≢◌, ℕ, ◌-◌, ◌<◌, ◌≤◌, List, [], ◌∷◌, ◌++◌, length, get_or, take, All, Option, Some, None, IfSome, IfNone, ◌⊎◌, ⊎_elim, sym, ap, ◌∙◌, subst, append_assoc, arith}
use Rattle.std.specs.List.Sorted.{IsStrictlyIncreasing}
use Rattle.std.proofs.lemmas.Bool.{cases_lt, cases_order}
use Rattle.std.proofs.lemmas.List.{get_or-take, length-take-le, get_or_default}
use Rattle.std.proofs.lemmas.List.Kept.{AllPairs-from_increasing}
use Rattle.std.proofs.lemmas.List.Elements.{All-contains, All-get_or, Contains-get_or}
use Rattle.std.proofs.lemmas.List.Sums.{sum_by-cons}
use Rattle.weighted_dag.specs.Graphs.{Graph, IsGraph, IsEdge, order_of, weight_of, successors_of}
use Rattle.weighted_dag.specs.Chains.{IsChain, chain_length, NoneIsLonger, IsLongest, IsLongestLength, IsBefore, IsLongestFrom}
use Rattle.weighted_dag.proofs.LengthLemmas.{none_longer_than}
use Rattle.critical_path.specs.inner.Walks.{IsFirstIndexOf, IsFirstLongest, IsFirstAfter}

module _ (g : Graph) (form : IsGraph g) (lengths : List ℕ) (n : ℕ) (longest : (v : ℕ) → v < order_of g → IsLongestFrom g v (get_or lengths v 0)) where
  -- a vertex weighs no more than the chains that begin with it are long
  pub weight_below : (v : ℕ) → v < order_of g → weight_of g v ≤ get_or lengths v 0
  weight_below v within =
      let one = (longest v within).none_longer [] (within, tt, tt) in
      let sum = sum_by-cons (weight_of g) v [] in
      omega arith

  -- without weights the empty chain is the first
  pub start_none : NoneIsLonger g n → n ≡ 0 → IsFirstLongest g n []
  start_none most zero = record { chain = tt; is = sym zero; none_longer = most; first = λ d h e b. no_before d b }
    where
      no_before : (d : List ℕ) → IsBefore d [] → ⊥
      no_before [] b = b
      no_before (x ∷ d) b = b

  -- the first vertex from which the length is the greatest begins the first longest chain
  pub start_some : NoneIsLonger g n → (v : ℕ) → v < order_of g → get_or lengths v 0 ≡ n → 0 < n → ((x : ℕ) → x < v → get_or lengths x 0 ≢ n) → (c : List ℕ) → IsFirstAfter g v (n - weight_of g v) c → IsFirstLongest g n (v ∷ c)
  start_some most v within at positive earliest c so = record {
    chain = so.chain;
    is = let sum = sum_by-cons (weight_of g) v c in let is = so.is in let low = weight_below v within in omega arith;
    none_longer = most;
    first = first;
  }
    where
      first : (d : List ℕ) → IsChain g d → chain_length g d ≡ n → ¬ IsBefore d (v ∷ c)
      first [] h e b = absurd (omega arith)
      first (x ∷ d) h e b = ⊎_elim
          (λ (l : x < v).
          let within' = h.0 in
          let up = (longest x within').none_longer d h in
          let best = (longest x within').reached in
          let top = most (x ∷ best.0) best.1 in
          let long : chain_length g (x ∷ best.0) ≡ get_or lengths x 0 = best.2 in
          earliest x l (omega arith))
          (λ (s : (x ≡ v) × IsBefore d c).
          let same : x ≡ v = s.0 in
          let sum = sum_by-cons (weight_of g) x d in
          let weight : weight_of g x ≡ weight_of g v = ap (weight_of g) same in
          so.first d (subst (λ (z : ℕ). IsChain g (z ∷ d)) same h) (omega arith) s.1)
          b

  -- where nothing is left the chain ends
  pub end_after : (v : ℕ) → v < order_of g → get_or lengths v 0 - weight_of g v ≡ 0 → IsFirstAfter g v (get_or lengths v 0 - weight_of g v) []
  end_after v within zero = record {
    chain = (within, tt, tt);
    is = sym zero;
    none_longer = λ d h. let sum = sum_by-cons (weight_of g) v d in let up = (longest v within).none_longer d h in omega arith;
    first = λ d h e b. no_before d b;
  }
    where
      no_before : (d : List ℕ) → IsBefore d [] → ⊥
      no_before [] b = b
      no_before (x ∷ d) b = b

  -- the first successor from which the length is what is left goes on with the chain
  pub next_after : (v u : ℕ) → v < order_of g → IsFirstIndexOf lengths (successors_of g v) (get_or lengths v 0 - weight_of g v) u → 0 < get_or lengths v 0 - weight_of g v → (c : List ℕ) → IsFirstAfter g u (get_or lengths u 0 - weight_of g u) c → IsFirstAfter g v (get_or lengths v 0 - weight_of g v) (u ∷ c)
  next_after v u within place positive c so =
      let edge : IsEdge g v u = place.index in
      let within' = form.within v u edge in
      let at = place.is in
      record {
        chain = (within, edge, so.chain);
        is = let sum = sum_by-cons (weight_of g) u c in let is = so.is in let low = weight_below u within' in omega arith;
        none_longer = λ d h. let sum = sum_by-cons (weight_of g) v d in let up = (longest v within).none_longer d h in omega arith;
        first = first;
      }
    where
      first : (d : List ℕ) → IsChain g (v ∷ d) → chain_length g d ≡ get_or lengths v 0 - weight_of g v → ¬ IsBefore d (u ∷ c)
      first [] h e b = absurd (omega arith)
      first (x ∷ d) h e b = ⊎_elim
          (λ (l : x < u).
          let inside = h.2.0 in
          let up = (longest x inside).none_longer d h.2 in
          let best = (longest x inside).reached in
          let long : chain_length g (x ∷ best.0) ≡ get_or lengths x 0 = best.2 in
          let sum = sum_by-cons (weight_of g) v (x ∷ best.0) in
          let top = (longest v within).none_longer (x ∷ best.0) (within, h.1, best.1) in
          place.first x h.1 l (omega arith))
          (λ (s : (x ≡ u) × IsBefore d c).
          let same : x ≡ u = s.0 in
          let at = place.is in
          let sum = sum_by-cons (weight_of g) x d in
          let weight : weight_of g x ≡ weight_of g u = ap (weight_of g) same in
          so.first d (subst (λ (z : ℕ). IsChain g (z ∷ d)) same h.2) (omega arith) s.1)
          b

  -- where something is left some successor has it
  pub some_after : (v : ℕ) → v < order_of g → 0 < get_or lengths v 0 - weight_of g v → All (λ p. get_or lengths p 0 ≢ get_or lengths v 0 - weight_of g v) (successors_of g v) → ⊥
  some_after v within positive none = go (longest v within).reached
    where
      go : (c : List ℕ) × IsChain g (v ∷ c) × (chain_length g (v ∷ c) ≡ get_or lengths v 0) → ⊥
      go s = by s.0 s.1 s.2
        where
          by : (c : List ℕ) → IsChain g (v ∷ c) → chain_length g (v ∷ c) ≡ get_or lengths v 0 → ⊥
          by [] h e = let sum = sum_by-cons (weight_of g) v [] in omega arith
          by (x ∷ c) h e =
              let inside = h.2.0 in
              let sum = sum_by-cons (weight_of g) v (x ∷ c) in
              let up = (longest x inside).none_longer c h.2 in
              let best = (longest x inside).reached in
              let long : chain_length g (x ∷ best.0) ≡ get_or lengths x 0 = best.2 in
              let sum' = sum_by-cons (weight_of g) v (x ∷ best.0) in
              let top = (longest v within).none_longer (x ∷ best.0) (within, h.1, best.1) in
              All-contains (λ p. get_or lengths p 0 ≢ get_or lengths v 0 - weight_of g v) (successors_of g v) x none h.1 (omega arith)

-- what the walk keeps: after the vertices that are done comes the next vertex, or the chain is complete
abbrev pub IsWalk : Graph → List ℕ → ℕ → List ℕ → ℕ → Option ℕ → Type 0
IsWalk g lengths n done left None = IsFirstLongest g n done
IsWalk g lengths n done left (Some v) =
    (v < order_of g) × (get_or lengths v 0 ≡ left) × (0 < left) × ((c : List ℕ) → IsFirstAfter g v (left - weight_of g v) c → IsFirstLongest g n (done ++ v ∷ c))

-- how far the walk may still go
abbrev pub walk_left : Graph → Option ℕ → ℕ
walk_left g None = 0
walk_left g (Some v) = order_of g - v

-- where no earlier index has the number, the index is the first
pub first_index : (numbers indices : List ℕ) (n i : ℕ) → IsStrictlyIncreasing indices → i < length indices → All (λ p. get_or numbers p 0 ≢ n) (take i indices) → get_or numbers (get_or indices i 0) 0 ≡ n → IsFirstIndexOf numbers indices n (get_or indices i 0)
first_index numbers indices n i rising inside none is = record {
  index = Contains-get_or indices i 0 inside;
  is = is;
  first = λ x h below.
      let k : ℕ = h.0 in
      let within : k < length indices = h.1 in
      let at : get_or indices k x ≡ x = h.2 in
      let same = get_or_default indices i x 0 inside in
      let len = length-take-le i indices (omega arith) in
      ⊎_elim
      (λ (e : k ≡ i). absurd (let f : get_or indices k x ≡ get_or indices i x = ap (λ (j : ℕ). get_or indices j x) e in omega arith))
      (⊎_elim
      (λ (l : k < i). All-contains (λ p. get_or numbers p 0 ≢ n) (take i indices) x none (k, omega arith, get_or-take i indices k x l ∙ at))
      (λ (l : i < k). absurd (let up = AllPairs-from_increasing indices rising i k x l within in omega arith)))
      (cases_order k i);
}

module _ (g : Graph) (form : IsGraph g) (lengths : List ℕ) (n : ℕ) (entries : length lengths ≡ order_of g) (longest : (v : ℕ) → v < order_of g → IsLongestFrom g v (get_or lengths v 0)) where
  -- the walk begins with the first vertex from which the length is the greatest
  pub start_walk : IsLongestLength g n → (r : Option ℕ) → IfSome r (λ _. 0 < n) → IfSome r (λ v. v < length lengths) → IfSome r (λ v. get_or lengths v 0 ≡ n) → IfSome r (λ v. (x : ℕ) → x < v → get_or lengths x 0 ≢ n) → IfNone r ((n ≡ 0) ⊎ All (λ m. m ≢ n) lengths) → IsWalk g lengths n [] n r
  start_walk top None positive within is first none =
      let most = none_longer_than g n top in
      start_none g form lengths n longest most
      (⊎_elim (λ (z : n ≡ 0). z) (λ (a : All (λ m. m ≢ n) lengths). zero top.0 top.1 top.2 a) none)
    where
      zero : (c : List ℕ) → IsLongest g c → chain_length g c ≡ n → All (λ m. m ≢ n) lengths → n ≡ 0
      zero [] so is none = omega arith
      zero (v ∷ c) so is none =
          let within = so.chain.0 in
          let up = (longest v within).none_longer c so.chain in
          let best = (longest v within).reached in
          let long : chain_length g (v ∷ best.0) ≡ get_or lengths v 0 = best.2 in
          let low = so.none_longer (v ∷ best.0) best.1 in
          let same : get_or lengths v 0 ≡ n = omega arith in
          absurd (All-get_or (λ m. m ≢ n) lengths v 0 (omega arith) none same)
  start_walk top (Some v) positive within is first none =
      let most = none_longer_than g n top in
      let inside : v < order_of g = omega (arith, within) in
      (inside, is, positive, λ c so. start_some g form lengths n longest most v inside is positive first c so)

  -- the walk goes on with the first successor from which the length is what is left
  pub step_walk : (done : List ℕ) (left v w left' : ℕ) → IsWalk g lengths n done left (Some v) → w ≡ weight_of g v → left' ≡ left - w → (r : Option ℕ) → IfSome r (λ _. 0 < left') → IfSome r (IsFirstIndexOf lengths (successors_of g v) left') → IfNone r ((left' ≡ 0) ⊎ All (λ p. get_or lengths p 0 ≢ left') (successors_of g v)) → IsWalk g lengths n (done ++ v ∷ []) left' r
  step_walk done left v w left' so weight is r positive place none =
      let at : get_or lengths v 0 ≡ left = so.1 in
      let rest : left' ≡ get_or lengths v 0 - weight_of g v = omega arith in
      let P : ℕ → Type 0 = λ (m : ℕ). IfSome r (λ _. 0 < m) → IfSome r (IsFirstIndexOf lengths (successors_of g v) m) → IfNone r ((m ≡ 0) ⊎ All (λ p. get_or lengths p 0 ≢ m) (successors_of g v)) → IsWalk g lengths n (done ++ v ∷ []) m r in
      subst P (sym rest) (λ p q o. go so.0 (subst (λ (l : ℕ). (c : List ℕ) → IsFirstAfter g v (l - weight_of g v) c → IsFirstLongest g n (done ++ v ∷ c)) (sym at) so.3) r p q o) positive place none
    where
      go : v < order_of g → ((c : List ℕ) → IsFirstAfter g v (get_or lengths v 0 - weight_of g v) c → IsFirstLongest g n (done ++ v ∷ c)) → (r : Option ℕ) → IfSome r (λ _. 0 < get_or lengths v 0 - weight_of g v) → IfSome r (IsFirstIndexOf lengths (successors_of g v) (get_or lengths v 0 - weight_of g v)) → IfNone r ((get_or lengths v 0 - weight_of g v ≡ 0) ⊎ All (λ p. get_or lengths p 0 ≢ get_or lengths v 0 - weight_of g v) (successors_of g v)) → IsWalk g lengths n (done ++ v ∷ []) (get_or lengths v 0 - weight_of g v) r
      go within next None positive place none =
          let zero : get_or lengths v 0 - weight_of g v ≡ 0 = ⊎_elim
          (λ (z : get_or lengths v 0 - weight_of g v ≡ 0). z)
          (λ (a : All (λ p. get_or lengths p 0 ≢ get_or lengths v 0 - weight_of g v) (successors_of g v)). ⊎_elim
          (λ (l : 0 < get_or lengths v 0 - weight_of g v). absurd (some_after g form lengths n longest v within l a))
          (λ (l : get_or lengths v 0 - weight_of g v ≤ 0). omega arith)
          (cases_lt 0 (get_or lengths v 0 - weight_of g v)))
          none in
          next [] (end_after g form lengths n longest v within zero)
      go within next (Some u) positive place none =
          let edge : IsEdge g v u = place.index in
          let inside = form.within v u edge in
          let at : get_or lengths u 0 ≡ get_or lengths v 0 - weight_of g v = place.is in (
            inside,
            at,
            positive,
            λ c so.
                let after : IsFirstAfter g u (get_or lengths u 0 - weight_of g u) c = subst (λ (m : ℕ). IsFirstAfter g u (m - weight_of g u) c) (sym at) so in
                subst (IsFirstLongest g n) (sym (append_assoc done (v ∷ []) (u ∷ c))) (next (u ∷ c) (next_after g form lengths n longest v u within place positive c after)),
          )

  -- the next vertex is later
  pub walk_smaller : (v left : ℕ) → v < order_of g → (r : Option ℕ) → IfSome r (IsFirstIndexOf lengths (successors_of g v) left) → walk_left g r < order_of g - v
  walk_smaller v left within None place = omega arith
  walk_smaller v left within (Some u) place =
      let edge : IsEdge g v u = place.index in
      let later = form.later v u edge in
      let inside = form.within v u edge in
      omega arith
