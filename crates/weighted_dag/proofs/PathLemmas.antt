-- Chains joined and parted, and what can be reached.
use Rattle.std.proofs.Common.{ℕ, ◌<◌, List, [], ◌∷◌, ◌++◌, ◌⊎◌, inl, inr, sym, subst, append_assoc, arith}
use Rattle.weighted_dag.specs.Graphs.{Graph, IsGraph, IsEdge}
use Rattle.weighted_dag.specs.Chains.{IsChain}
use Rattle.weighted_dag.specs.Reductions.{IsReachable, HasDetour}

-- two chains that meet at a vertex are one chain
pub IsChain-join : (g : Graph) (a : List ℕ) (b : ℕ) (c : List ℕ) → IsChain g (a ++ b ∷ []) → IsChain g (b ∷ c) → IsChain g (a ++ b ∷ c)
IsChain-join g [] b c h k = k
IsChain-join g (x ∷ []) b c h k = (h.0, h.1, k)
IsChain-join g (x ∷ y ∷ a) b c h k = (h.0, h.1, IsChain-join g (y ∷ a) b c h.2 k)

-- an edge is a path
pub reachable_by_edge : (g : Graph) → IsGraph g → (a b : ℕ) → IsEdge g a b → IsReachable g a b
reachable_by_edge g form a b e =
    let within = form.within a b e in
    let later = form.later a b e in
    ([], (omega arith, e, (within, tt, tt)))

-- an edge and then a path is a path of two or more edges
pub detour_by_edge : (g : Graph) → IsGraph g → (a x b : ℕ) → IsEdge g a x → IsReachable g x b → HasDetour g a b
detour_by_edge g form a x b e r =
    let within = form.within a x e in
    let later = form.later a x e in
    (x, r.0, (omega arith, e, r.1))

-- a path of two or more edges is a path
pub reachable_by_detour : (g : Graph) (a b : ℕ) → HasDetour g a b → IsReachable g a b
reachable_by_detour g a b d = (d.0 ∷ d.1, d.2)

-- a path is an edge, or has two or more edges
pub IsReachable-cases : (g : Graph) (a b : ℕ) → IsReachable g a b → IsEdge g a b ⊎ HasDetour g a b
IsReachable-cases g a b r = cases r.0 r.1
  where
    cases : (between : List ℕ) → IsChain g (a ∷ between ++ b ∷ []) → IsEdge g a b ⊎ HasDetour g a b
    cases [] h = inl h.1
    cases (x ∷ between) h = inr (x, between, h)

-- a path leads to a later vertex
path_later : (g : Graph) → IsGraph g → (a : ℕ) (between : List ℕ) (b : ℕ) → IsChain g (a ∷ between ++ b ∷ []) → a < b
path_later g form a [] b h = form.later a b h.1
path_later g form a (x ∷ between) b h =
    let l = form.later a x h.1 in let r = path_later g form x between b h.2 in omega arith

pub reachable_later : (g : Graph) → IsGraph g → (a b : ℕ) → IsReachable g a b → a < b
reachable_later g form a b r = path_later g form a r.0 b r.1

-- a path and then a path is a path
pub reachable_trans : (g : Graph) (a b c : ℕ) → IsReachable g a b → IsReachable g b c → IsReachable g a c
reachable_trans g a b c r s =
    let joined = IsChain-join g (a ∷ r.0) b (s.0 ++ c ∷ []) r.1 s.1 in
    (r.0 ++ b ∷ s.0, subst (IsChain g) (sym (append_assoc (a ∷ r.0) (b ∷ s.0) (c ∷ []))) joined)
