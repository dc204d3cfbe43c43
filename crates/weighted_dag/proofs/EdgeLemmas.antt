-- What one more edge does to a graph.
use Rattle.std.proofs.Common.{◌≡◌, ◌≢◌, ℕ, ◌+◌, ◌<◌, ◌≤◌, List, [], ◌∷◌, ◌++◌, length, Contains, All, ◌⊎◌, inl, inr, ⊎_elim, sym, ◌∙◌, subst, arith, length-append, get_or-set_same, get_or-set_other}
use Rattle.std.specs.List.Sorted.{IsStrictlyIncreasing}
use Rattle.std.proofs.lemmas.Bool.{cases_eq, cases_lt}
use Rattle.std.proofs.lemmas.List.{get_or_append_left, get_or_at, length-set}
use Rattle.std.proofs.lemmas.List.Elements.{Contains-push_cases}
use Rattle.weighted_dag.specs.Graphs.{Graph, IsGraph, IsEdge, order_of, successors_of, with_edge}

-- the successors of the vertex that the edge leaves
pub with_edge_same : (g : Graph) (a b : ℕ) → a < length g.successors → successors_of (with_edge g a b) a ≡ successors_of g a ++ b ∷ []
with_edge_same g a b h = get_or-set_same g.successors a _ [] h

-- the successors of the other vertices
pub with_edge_other : (g : Graph) (a b x : ℕ) → x ≢ a → successors_of (with_edge g a b) x ≡ successors_of g x
with_edge_other g a b x h = get_or-set_other g.successors a x _ [] h

-- an edge of the larger graph is an edge of the smaller one, or the new one
pub IsEdge-with_edge : (g : Graph) (a b : ℕ) → a < length g.successors → (x y : ℕ) → IsEdge (with_edge g a b) x y → IsEdge g x y ⊎ ((x ≡ a) × (y ≡ b))
IsEdge-with_edge g a b h x y e = ⊎_elim
    (λ (same : x ≡ a).
    let P : List ℕ → Type 0 = λ (l : List ℕ). Contains l y in
    let q : successors_of (with_edge g a b) x ≡ successors_of g x ++ b ∷ [] = subst (λ (z : ℕ). successors_of (with_edge g a b) z ≡ successors_of g z ++ b ∷ []) (sym same) (with_edge_same g a b h) in
    ⊎_elim (λ (old : Contains (successors_of g x) y). inl old) (λ (new : b ≡ y). inr (same, sym new))
    (Contains-push_cases (successors_of g x) b y (subst P q e)))
    (λ (other : x ≢ a).
    let P : List ℕ → Type 0 = λ (l : List ℕ). Contains l y in
    inl (subst P (with_edge_other g a b x other) e))
    (cases_eq x a)

-- a rising list with a greater number at its end rises
pub IsStrictlyIncreasing-push : (xs : List ℕ) (b : ℕ) → IsStrictlyIncreasing xs → All (λ s. s < b) xs → IsStrictlyIncreasing (xs ++ b ∷ [])
IsStrictlyIncreasing-push xs b rises below k h = ⊎_elim
    (λ (l : k + 1 < length xs).
    let lower : k < length xs = omega arith in
    let here = get_or_append_left xs (b ∷ []) 0 k lower in
    let next = get_or_append_left xs (b ∷ []) 0 (k + 1) l in
    let r = rises k l in
    omega arith)
    (λ (l : length xs ≤ k + 1).
    let n = length-append xs (b ∷ []) in
    let e : length xs ≡ k + 1 = omega arith in
    let lower : k < length xs = omega arith in
    let here = get_or_append_left xs (b ∷ []) 0 k lower in
    let next = get_or_at xs b [] 0 (k + 1) e in
    let r = below k 0 lower in
    omega arith)
    (cases_lt (k + 1) (length xs))

pub IsGraph-with_edge : (g : Graph) (a b : ℕ) → IsGraph g → a < b → b < order_of g → All (λ s. s < b) (successors_of g a) → IsGraph (with_edge g a b)
IsGraph-with_edge g a b form later within above =
    let lists = form.lists in
    let inside : a < length g.successors = omega arith in
    record {
      small = form.small;
      lists = length-set g.successors a (successors_of g a ++ b ∷ []) ∙ lists;
      later = λ x y e. ⊎_elim (λ (old : IsEdge g x y). form.later x y old) (λ (new : (x ≡ a) × (y ≡ b)). omega (arith, new.0, new.1)) (IsEdge-with_edge g a b inside x y e);
      within = λ x y e. ⊎_elim (λ (old : IsEdge g x y). form.within x y old) (λ (new : (x ≡ a) × (y ≡ b)). omega (arith, new.1)) (IsEdge-with_edge g a b inside x y e);
      rising = λ x. ⊎_elim
          (λ (same : x ≡ a). subst (λ (z : ℕ). IsStrictlyIncreasing (successors_of (with_edge g a b) z)) (sym same)
          (subst IsStrictlyIncreasing (sym (with_edge_same g a b inside)) (IsStrictlyIncreasing-push (successors_of g a) b (form.rising a) above)))
          (λ (other : x ≢ a). subst IsStrictlyIncreasing (sym (with_edge_other g a b x other)) (form.rising x))
          (cases_eq x a);
    }
