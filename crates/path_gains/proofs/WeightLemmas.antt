-- A graph with another weight at one vertex.
use Rattle.std.proofs.Common.{◌≡◌, ◌≢◌, ℕ, ◌<◌, ◌≤◌, List, [], ◌∷◌, refl, arith, get_or-set_same, get_or-set_other, length-set}
use Rattle.std.proofs.lemmas.List.Sums.{sum_by-cons}
use Rattle.path_gains.specs.Gains.{with_weight_at}
use Rattle.slack.specs.inner.Passes.{LeadsInto}
use Rattle.weighted_dag.specs.Chains.{IsChain, LeadsTo, chain_length}
use Rattle.weighted_dag.specs.Graphs.{Graph, IsGraph, order_of, weight_of}

module _ (g : Graph) (v w : ℕ) where
  pub weight_other : (x : ℕ) → x ≢ v → weight_of (with_weight_at g v w) x ≡ weight_of g x
  weight_other x e = get_or-set_other g.weights v x w 0 e

  pub weight_here : v < order_of g → weight_of (with_weight_at g v w) v ≡ w
  weight_here inside = get_or-set_same g.weights v w 0 inside

  leads_there : (x : ℕ) (c : List ℕ) → LeadsTo g x c → LeadsTo (with_weight_at g v w) x c
  leads_there x [] h = tt
  leads_there x (y ∷ c) h = h

  leads_back : (x : ℕ) (c : List ℕ) → LeadsTo (with_weight_at g v w) x c → LeadsTo g x c
  leads_back x [] h = tt
  leads_back x (y ∷ c) h = h

  -- the same lists are chains
  pub chain_there : (c : List ℕ) → IsChain g c → IsChain (with_weight_at g v w) c
  chain_there [] h = tt
  chain_there (x ∷ c) h = (let o = length-set g.weights v w in let within = h.0 in omega arith, leads_there x c h.1, chain_there c h.2)

  pub chain_back : (c : List ℕ) → IsChain (with_weight_at g v w) c → IsChain g c
  chain_back [] h = tt
  chain_back (x ∷ c) h = (let o = length-set g.weights v w in let within = h.0 in omega arith, leads_back x c h.1, chain_back c h.2)

  -- a chain after v has the same length
  pub after_same : IsGraph g → (x : ℕ) (c : List ℕ) → v ≤ x → IsChain g (x ∷ c) → chain_length (with_weight_at g v w) c ≡ chain_length g c
  after_same form x [] low h = refl
  after_same form x (y ∷ c) low h =
      let later = form.later x y h.1 in
      let rest = after_same form y c (omega arith) h.2 in
      let same = weight_other y (λ (e : y ≡ v). omega arith) in
      let a = sum_by-cons (weight_of g) y c in
      let b = sum_by-cons (weight_of (with_weight_at g v w)) y c in
      omega arith

  -- what leads to v, or to a vertex before it, has the same length
  pub before_same : IsGraph g → (x : ℕ) (r : List ℕ) → x ≤ v → LeadsInto g x r → chain_length (with_weight_at g v w) r ≡ chain_length g r
  before_same form x [] low h = refl
  before_same form x (y ∷ r) low h =
      let later = form.later y x h.0 in
      let rest = before_same form y r (omega arith) h.1 in
      let same = weight_other y (λ (e : y ≡ v). omega arith) in
      let a = sum_by-cons (weight_of g) y r in
      let b = sum_by-cons (weight_of (with_weight_at g v w)) y r in
      omega arith
