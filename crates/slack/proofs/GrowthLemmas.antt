-- How far a weight can rise so that the longest length stays.
use Rattle.std.proofs.Common.{◌≡◌, ◌≢◌, ℕ, ◌+◌, ◌-◌, ◌<◌, ◌≤◌, List, [], ◌∷◌, ◌++◌, length, get_or, ⊎_elim, refl, sym, ap, ◌∙◌, subst, arith, get_or-set_same, get_or-set_other, length-set, length-append}
use Rattle.std.proofs.lemmas.Bool.{cases_eq, cases_lt}
use Rattle.std.proofs.lemmas.List.{get_or_append_left, get_or_push}
use Rattle.std.proofs.lemmas.List.Sums.{sum_by-cons, sum_by-le-sum_by}
use Rattle.weighted_dag.specs.Graphs.{Graph, IsGraph, order_of, weight_of}
use Rattle.weighted_dag.specs.Chains.{AllAreShorter, IsChain, LeadsTo, chain_length, NoneIsLonger, IsLongest, IsLongestLength, IsLongestFrom}
use Rattle.weighted_dag.specs.Slacks.{raised, KeepsLongest, IsSlack}
use Rattle.slack.specs.inner.Passes.{LeadsInto, IsLongestInto}
use Rattle.slack.proofs.LeadingLemmas.{lead, chain_length-lead, IsChain-lead}

module _ (g : Graph) (form : IsGraph g) (v n : ℕ) (inside : v < order_of g) where
  -- the raised graph has the same vertices
  order : order_of (raised g v n) ≡ order_of g
  order = length-set g.weights v (weight_of g v + n)

  weight_same : weight_of (raised g v n) v ≡ weight_of g v + n
  weight_same = get_or-set_same g.weights v (weight_of g v + n) 0 inside

  weight_other : (x : ℕ) → x ≢ v → weight_of (raised g v n) x ≡ weight_of g x
  weight_other x e = get_or-set_other g.weights v x (weight_of g v + n) 0 e

  weight_more : (x : ℕ) → weight_of g x ≤ weight_of (raised g v n) x
  weight_more x = ⊎_elim
      (λ (e : x ≡ v).
      let same = weight_same in
      let a : weight_of g x ≡ weight_of g v = ap (weight_of g) e in
      let b : weight_of (raised g v n) x ≡ weight_of (raised g v n) v = ap (weight_of (raised g v n)) e in
      omega arith)
      (λ (e : x ≢ v). let same = weight_other x e in omega arith)
      (cases_eq x v)

  chain_length-more : (c : List ℕ) → chain_length g c ≤ chain_length (raised g v n) c
  chain_length-more c = sum_by-le-sum_by (weight_of g) (weight_of (raised g v n)) c weight_more

  LeadsTo-raised : (x : ℕ) (c : List ℕ) → LeadsTo g x c → LeadsTo (raised g v n) x c
  LeadsTo-raised x [] h = tt
  LeadsTo-raised x (y ∷ c) h = h

  LeadsTo-lowered : (x : ℕ) (c : List ℕ) → LeadsTo (raised g v n) x c → LeadsTo g x c
  LeadsTo-lowered x [] h = tt
  LeadsTo-lowered x (y ∷ c) h = h

  IsChain-raised : (c : List ℕ) → IsChain g c → IsChain (raised g v n) c
  IsChain-raised [] h = tt
  IsChain-raised (x ∷ c) h = (let o = order in let within = h.0 in omega arith, LeadsTo-raised x c h.1, IsChain-raised c h.2)

  IsChain-lowered : (c : List ℕ) → IsChain (raised g v n) c → IsChain g c
  IsChain-lowered [] h = tt
  IsChain-lowered (x ∷ c) h = (let o = order in let within = h.0 in omega arith, LeadsTo-lowered x c h.1, IsChain-lowered c h.2)

  -- a chain after v has the same length
  chain_length-after : (x : ℕ) (c : List ℕ) → v ≤ x → IsChain g (x ∷ c) → chain_length (raised g v n) c ≡ chain_length g c
  chain_length-after x [] low h = refl
  chain_length-after x (y ∷ c) low h =
      let later = form.later x y h.1 in
      let rest = chain_length-after y c (omega arith) h.2 in
      let same = weight_other y (λ (e : y ≡ v). omega arith) in
      let a = sum_by-cons (weight_of g) y c in
      let b = sum_by-cons (weight_of (raised g v n)) y c in
      omega arith

  -- a chain that passes through v grows by n, and the others stay
  module _ (into from most : ℕ) (below : IsLongestInto g v into) (above : IsLongestFrom g v from) (none_longer : NoneIsLonger g most) (room : into + from + n ≤ most) where
    at_v : (x : ℕ) (c r : List ℕ) → x ≡ v → IsChain g (x ∷ c) → LeadsInto g x r → chain_length g r + chain_length (raised g v n) (x ∷ c) ≤ most
    at_v x c r e h l =
        let rest = chain_length-after x c (omega arith) h in
        let same = weight_same in
        let w : weight_of g x ≡ weight_of g v = ap (weight_of g) e in
        let w' : weight_of (raised g v n) x ≡ weight_of (raised g v n) v = ap (weight_of (raised g v n)) e in
        let a = sum_by-cons (weight_of g) x c in
        let b = sum_by-cons (weight_of (raised g v n)) x c in
        let before = below.none_longer r (subst (λ (z : ℕ). LeadsInto g z r) e l) in
        let after = above.none_longer c (subst (λ (z : ℕ). IsChain g (z ∷ c)) e h) in
        let first : chain_length g (x ∷ c) ≡ chain_length g (v ∷ c) = ap (λ (z : ℕ). chain_length g (z ∷ c)) e in
        omega arith

    bound : (x : ℕ) (c r : List ℕ) → IsChain g (x ∷ c) → LeadsInto g x r → chain_length g r + chain_length (raised g v n) (x ∷ c) ≤ most
    bound x [] r h l = ⊎_elim
        (λ (e : x ≡ v). at_v x [] r e h l)
        (λ (e : x ≢ v).
        let same = weight_other x e in
        let a = sum_by-cons (weight_of g) x [] in
        let b = sum_by-cons (weight_of (raised g v n)) x [] in
        let whole = none_longer (lead r (x ∷ [])) (IsChain-lead g form r x [] l h) in
        let parts = chain_length-lead g r (x ∷ []) in
        omega arith)
        (cases_eq x v)
    bound x (y ∷ c) r h l = ⊎_elim
        (λ (e : x ≡ v). at_v x (y ∷ c) r e h l)
        (λ (e : x ≢ v).
        let same = weight_other x e in
        let b = sum_by-cons (weight_of (raised g v n)) x (y ∷ c) in
        let rest = bound y c (x ∷ r) h.2 (h.1, l) in
        let a = sum_by-cons (weight_of g) x r in
        omega arith)
        (cases_eq x v)

    none_longer_raised : NoneIsLonger (raised g v n) most
    none_longer_raised [] h = omega arith
    none_longer_raised (x ∷ c) h = let b = bound x c [] (IsChain-lowered (x ∷ c) h) tt in omega arith

-- one more entry that a function gives
pub pushed : (f : ℕ → ℕ) (xs : List ℕ) (i x : ℕ) → (length xs ≡ i) × ((k : ℕ) → k < i → get_or xs k 0 ≡ f k) → x ≡ f i → (length (xs ++ x ∷ []) ≡ i + 1) × ((k : ℕ) → k < i + 1 → get_or (xs ++ x ∷ []) k 0 ≡ f k)
pushed f xs i x so is =
    let size : length xs ≡ i = so.0 in (
      let n = length-append xs (x ∷ []) in omega arith,
      λ k h. ⊎_elim
          (λ (l : k < i). get_or_append_left xs (x ∷ []) 0 k (omega arith) ∙ so.1 k l)
          (λ (l : i ≤ k). let e : k ≡ i = omega arith in get_or_push xs x 0 k (omega arith) ∙ is ∙ ap f (sym e))
          (cases_lt k i),
    )

-- the longest length is the length of some chain
pub longest_fits : (g : Graph) (most limit : ℕ) → IsLongestLength g most → AllAreShorter g limit → most < limit
longest_fits g most limit longest shorter =
    let best : IsLongest g longest.0 = longest.1 in
    let is : chain_length g longest.0 ≡ most = longest.2 in
    let low = shorter longest.0 best.chain in
    omega arith

module _ (g : Graph) (form : IsGraph g) (v : ℕ) (inside : v < order_of g) (into from most : ℕ) (below : IsLongestInto g v into) (above : IsLongestFrom g v from) (none_longer : NoneIsLonger g most) (longest : IsLongestLength g most) where
  through_chain : IsChain g (lead below.reached.0 (v ∷ above.reached.0))
  through_chain = IsChain-lead g form below.reached.0 v above.reached.0 below.reached.1 above.reached.1

  through_length : chain_length g (lead below.reached.0 (v ∷ above.reached.0)) ≡ into + from
  through_length =
      let parts = chain_length-lead g below.reached.0 (v ∷ above.reached.0) in
      let a : chain_length g below.reached.0 ≡ into = below.reached.2 in
      let b : chain_length g (v ∷ above.reached.0) ≡ from = above.reached.2 in
      omega arith

  pub through_below : into + from ≤ most
  through_below = let up = none_longer (lead below.reached.0 (v ∷ above.reached.0)) through_chain in let is = through_length in omega arith

  keeps : KeepsLongest g v (most - (into + from))
  keeps =
      let n : ℕ = most - (into + from) in
      let low = through_below in
      let c : List ℕ = longest.0 in
      let long : IsLongest g c = longest.1 in
      let is : chain_length g c ≡ most = longest.2 in
      let up = none_longer_raised g form v n inside into from most below above none_longer (omega arith) in
      let chain : IsChain (raised g v n) c = IsChain-raised g form v n inside c long.chain in
      let more = chain_length-more g form v n inside c in
      let top = up c chain in
      let same : chain_length (raised g v n) c ≡ most = omega arith in
      (most, longest, (c, record { chain = chain; none_longer = λ d h. let u = up d h in omega arith }, same))

  greatest : (n : ℕ) → KeepsLongest g v n → n ≤ most - (into + from)
  greatest n k =
      let m : ℕ = k.0 in
      let first = k.1 in
      let second = k.2 in
      let long : IsLongest g longest.0 = longest.1 in
      let is : chain_length g longest.0 ≡ most = longest.2 in
      let long' : IsLongest g first.0 = first.1 in
      let is' : chain_length g first.0 ≡ m = first.2 in
      let raised_long : IsLongest (raised g v n) second.0 = second.1 in
      let is'' : chain_length (raised g v n) second.0 ≡ m = second.2 in
      let a = long.none_longer first.0 long'.chain in
      let b = long'.none_longer longest.0 long.chain in
      let top = raised_long.none_longer (lead below.reached.0 (v ∷ above.reached.0)) (IsChain-raised g form v n inside (lead below.reached.0 (v ∷ above.reached.0)) through_chain) in
      let grown = raised_through n in
      omega arith
    where
      raised_through : (n : ℕ) → into + from + n ≤ chain_length (raised g v n) (lead below.reached.0 (v ∷ above.reached.0))
      raised_through n =
          let parts = chain_length-lead (raised g v n) below.reached.0 (v ∷ above.reached.0) in
          let a : chain_length g below.reached.0 ≡ into = below.reached.2 in
          let b : chain_length g (v ∷ above.reached.0) ≡ from = above.reached.2 in
          let a' = chain_length-more g form v n inside below.reached.0 in
          let rest = chain_length-more g form v n inside above.reached.0 in
          let one = sum_by-cons (weight_of g) v above.reached.0 in
          let two = sum_by-cons (weight_of (raised g v n)) v above.reached.0 in
          let weight = weight_same g form v n inside in
          omega arith

  pub IsSlack-lengths : IsSlack g v (most - (into + from))
  IsSlack-lengths = record { keeps = keeps; greatest = greatest }
