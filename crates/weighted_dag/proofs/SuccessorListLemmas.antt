-- When lists of successors form a graph, and what a prefix of such a list shows.
use Rattle.std.proofs.Common.{◌≡◌, ℕ, ◌+◌, ◌-◌, ◌^◌, ◌<◌, ◌≤◌, List, [], length, get_or, Contains, ⊎_elim, sym, ap, subst, arith}
use Rattle.std.specs.List.Sorted.{IsStrictlyIncreasing}
use Rattle.std.proofs.lemmas.Bool.{cases_lt}
use Rattle.std.proofs.lemmas.List.{get_or_past, get_or_default}
use Rattle.std.proofs.lemmas.List.Elements.{All-contains, Contains-get_or}
use Rattle.weighted_dag.specs.Graphs.{Graph, IsGraph, IsEdge, order_of, successors_of}
use Rattle.weighted_dag.specs.inner.SuccessorLists.{AreSuccessors}

-- the first i members are in order, and the bound is the last of them, or the vertex
pub record IsInOrderTo (v n : ℕ) (list : List ℕ) (i bound : ℕ) : Type 0 where
  pub later : (k : ℕ) → k < i → v < get_or list k 0
  pub within : (k : ℕ) → k < i → get_or list k 0 < n
  pub rising : (k : ℕ) → k + 1 < i → get_or list k 0 < get_or list (k + 1) 0
  pub first : i ≡ 0 → bound ≡ v
  pub last : 0 < i → bound ≡ get_or list (i - 1) 0
  pub above : v ≤ bound

pub IsInOrderTo-more : (v n : ℕ) (list : List ℕ) (i bound : ℕ) → IsInOrderTo v n list i bound → bound < get_or list i 0 → get_or list i 0 < n → IsInOrderTo v n list (i + 1) (get_or list i 0)
IsInOrderTo-more v n list i bound so low high =
    let base = so.above in
    record {
      later = λ k h. ⊎_elim (λ (l : k < i). so.later k l) (λ (l : i ≤ k). let e : k ≡ i = omega arith in subst (λ (j : ℕ). v < get_or list j 0) (sym e) (omega arith)) (cases_lt k i);
      within = λ k h. ⊎_elim (λ (l : k < i). so.within k l) (λ (l : i ≤ k). let e : k ≡ i = omega arith in subst (λ (j : ℕ). get_or list j 0 < n) (sym e) high) (cases_lt k i);
      rising = λ k h. ⊎_elim
          (λ (l : k + 1 < i). so.rising k l)
          (λ (l : i ≤ k + 1).
          let next : k + 1 ≡ i = omega arith in
          let here : k ≡ i - 1 = omega arith in
          let last = so.last (omega arith) in
          let a : get_or list k 0 ≡ get_or list (i - 1) 0 = ap (λ (j : ℕ). get_or list j 0) here in
          let b : get_or list (k + 1) 0 ≡ get_or list i 0 = ap (λ (j : ℕ). get_or list j 0) next in
          omega arith)
          (cases_lt (k + 1) i);
      first = λ e. absurd (omega arith);
      last = λ l. let e : i ≡ (i + 1) - 1 = omega arith in ap (λ (j : ℕ). get_or list j 0) e;
      above = omega arith;
    }

pub AreSuccessors-all : (v n : ℕ) (list : List ℕ) (i bound : ℕ) → length list ≤ i → IsInOrderTo v n list i bound → AreSuccessors v n list
AreSuccessors-all v n list i bound past so = record {
  later = λ k d h. let same = get_or_default list k d 0 h in let l = so.later k (omega arith) in omega arith;
  within = λ k d h. let same = get_or_default list k d 0 h in let l = so.within k (omega arith) in omega arith;
  rising = λ k h. so.rising k (omega arith);
}

-- in a list of successors the next member is above the bound, and below the number of vertices
pub next_within : (v n : ℕ) (list : List ℕ) (i bound : ℕ) → i < length list → IsInOrderTo v n list i bound → AreSuccessors v n list → (bound < get_or list i 0) × (get_or list i 0 < n)
next_within v n list i bound inside so good =
    let high = good.within i 0 inside in (
      ⊎_elim
          (λ (z : 0 < i).
          let last = so.last z in
          let e : (i - 1) + 1 ≡ i = omega arith in
          let rise : get_or list (i - 1) 0 < get_or list ((i - 1) + 1) 0 = good.rising (i - 1) (omega arith) in
          let at : get_or list ((i - 1) + 1) 0 ≡ get_or list i 0 = ap (λ (j : ℕ). get_or list j 0) e in
          omega arith)
          (λ (z : i ≤ 0). let first = so.first (omega arith) in let low = good.later i 0 inside in omega arith)
          (cases_lt 0 i),
      high,
    )

-- lists of successors form a graph
pub IsGraph-lists : (g : Graph) → order_of g < 2 ^ 32 → length g.successors ≡ order_of g → ((v : ℕ) → v < length g.successors → AreSuccessors v (order_of g) (successors_of g v)) → IsGraph g
IsGraph-lists g small lists good = record {
  small = small;
  lists = lists;
  later = λ a b e. All-contains (λ s. a < s) (successors_of g a) b (good a (has_list a b e)).later e;
  within = λ a b e. All-contains (λ s. s < order_of g) (successors_of g a) b (good a (has_list a b e)).within e;
  rising = λ a. ⊎_elim
      (λ (l : a < length g.successors). (good a l).rising)
      (λ (l : length g.successors ≤ a). let none : successors_of g a ≡ [] = get_or_past g.successors a [] l in subst IsStrictlyIncreasing (sym none) (λ k h. absurd (omega arith)))
      (cases_lt a (length g.successors));
}
  where
    has_list : (a b : ℕ) → IsEdge g a b → a < length g.successors
    has_list a b e = ⊎_elim
        (λ (l : a < length g.successors). l)
        (λ (l : length g.successors ≤ a).
        let none : successors_of g a ≡ [] = get_or_past g.successors a [] l in
        let empty : Contains [] b = subst (λ (xs : List ℕ). Contains xs b) none e in
        absurd (let within = empty.1 in omega arith))
        (cases_lt a (length g.successors))

-- each list of a graph is a list of successors
pub AreSuccessors-graph : (g : Graph) → IsGraph g → (v : ℕ) → AreSuccessors v (order_of g) (successors_of g v)
AreSuccessors-graph g form v = record {
  later = λ k d h. form.later v (get_or (successors_of g v) k d) (Contains-get_or (successors_of g v) k d h);
  within = λ k d h. form.within v (get_or (successors_of g v) k d) (Contains-get_or (successors_of g v) k d h);
  rising = form.rising v;
}
