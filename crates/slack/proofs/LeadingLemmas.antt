-- Chains that lead to a vertex and go on from it.
use Rattle.std.proofs.Common.{◌≡◌, ℕ, ◌+◌, List, [], ◌∷◌, arith}
use Rattle.std.proofs.lemmas.List.Sums.{sum_by-cons}
use Rattle.weighted_dag.specs.Graphs.{Graph, IsGraph, weight_of}
use Rattle.weighted_dag.specs.Chains.{IsChain, chain_length}
use Rattle.slack.specs.inner.Passes.{LeadsInto}

-- the list that leads to a vertex, put before a chain that begins with it
pub lead : List ℕ → List ℕ → List ℕ
lead [] d = d
lead (u ∷ c) d = lead c (u ∷ d)

pub chain_length-lead : (g : Graph) (c d : List ℕ) → chain_length g (lead c d) ≡ chain_length g c + chain_length g d
unfolding lead
chain_length-lead g [] d = omega arith
chain_length-lead g (u ∷ c) d =
    let rest = chain_length-lead g c (u ∷ d) in
    let one = sum_by-cons (weight_of g) u d in
    let two = sum_by-cons (weight_of g) u c in
    omega arith

module _ (g : Graph) (form : IsGraph g) where
  pub IsChain-lead : (c : List ℕ) (v : ℕ) (d : List ℕ) → LeadsInto g v c → IsChain g (v ∷ d) → IsChain g (lead c (v ∷ d))
  unfolding lead
  IsChain-lead [] v d l h = h
  IsChain-lead (u ∷ c) v d l h =
      let later = form.later u v l.0 in
      let within = h.0 in
      IsChain-lead c u (v ∷ d) l.1 (omega arith, l.0, h)
