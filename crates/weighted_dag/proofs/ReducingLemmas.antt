-- The graph that is being reduced, from the last vertex down.
use Rattle.std.proofs.Common.{◌≡◌, ◌≢◌, ℕ, ◌+◌, ◌-◌, ◌*◌, ◌<◌, ◌≤◌, List, [], ◌++◌, length, take, drop, Contains, inl, inr, ⊎_elim, sym, ap, ◌∙◌, subst, arith, length-append}
use Rattle.std.proofs.lemmas.Bool.{cases_eq}
use Rattle.std.proofs.lemmas.List.{length-drop, drop-append-le, take-append-le, drop_all, take_all}
use Rattle.std.proofs.lemmas.Nat.{row_fits}
use Rattle.weighted_dag.specs.Graphs.{Graph, IsGraph, IsEdge, order_of, successors_of}
use Rattle.weighted_dag.specs.Reductions.{HasDetour}
use Rattle.weighted_dag.specs.inner.BitSets.{words_for, set_at}
use Rattle.weighted_dag.specs.inner.ReductionSteps.{IsReducedAt, IsReachOf, AreReachSets}

-- the vertices from v on are done, and the others have no edge yet
pub record IsReducedFrom (g r : Graph) (v : ℕ) (sets : List ℕ) : Type 0 where
  pub weights : r.weights ≡ g.weights
  pub form : IsGraph r
  pub reached : AreReachSets g v sets
  pub done : (a : ℕ) → v ≤ a → IsReducedAt g r a
  pub none : (a : ℕ) → a < v → successors_of r a ≡ []

-- the same edges of a vertex in another graph
IsReducedAt-same : (g r r' : Graph) (a : ℕ) → successors_of r' a ≡ successors_of r a → IsReducedAt g r a → IsReducedAt g r' a
IsReducedAt-same g r r' a same so = record {
  kept = λ b e. so.kept b (subst (λ (l : List ℕ). Contains l b) same e);
  others = λ b e. ⊎_elim (λ (k : IsEdge r a b). inl (subst (λ (l : List ℕ). Contains l b) (sym same) k)) (λ (d : HasDetour g a b). inr d) (so.others b e);
}

-- the sets that were there stay when one more is put behind them
set_at-append_left : (w i : ℕ) (xs ys : List ℕ) → i * w + w ≤ length xs → set_at w (xs ++ ys) i ≡ set_at w xs i
set_at-append_left w i xs ys room =
    let n : ℕ = i * w + w - i * w in
    let size = length-drop (i * w) xs in
    ap (take n) (drop-append-le (i * w) xs ys (omega arith)) ∙ take-append-le n (drop (i * w) xs) ys (omega arith)

-- the set that is put behind the others
set_at-push : (w i : ℕ) (xs ys : List ℕ) → length xs ≡ i * w → length ys ≡ w → set_at w (xs ++ ys) i ≡ ys
set_at-push w i xs ys size room =
    let n : ℕ = i * w + w - i * w in
    let rest : drop (i * w) (xs ++ ys) ≡ ys = drop-append-le (i * w) xs ys (omega arith) ∙ ap (λ (l : List ℕ). l ++ ys) (drop_all (i * w) xs (omega arith)) in
    ap (take n) rest ∙ take_all n ys (omega arith)

-- one more vertex has its set
pub AreReachSets-more : (g : Graph) (v : ℕ) (sets set : List ℕ) → v < order_of g → AreReachSets g (v + 1) sets → IsReachOf g v set → AreReachSets g v (sets ++ set)
AreReachSets-more g v sets set inside so reach =
    let w : ℕ = words_for (order_of g) in
    let room = so.room in
    let size : length set ≡ w = reach.room in
    let n : ℕ = order_of g - (v + 1) in
    let one_more : order_of g - v ≡ n + 1 = omega arith in
    record {
      room =
          let both = length-append sets set in
          let all : length (sets ++ set) ≡ (n + 1) * w = omega arith in
          all ∙ sym (ap (λ (m : ℕ). m * w) one_more);
      each = λ k low high. ⊎_elim
          (λ (e : k ≡ v).
          let index : order_of g - 1 - k ≡ n = omega arith in
          let at : set_at w (sets ++ set) (order_of g - 1 - k) ≡ set = ap (set_at w (sets ++ set)) index ∙ set_at-push w n sets set room size in
          subst (IsReachOf g k) (sym at) (subst (λ (j : ℕ). IsReachOf g j set) (sym e) reach))
          (λ (e : k ≢ v).
          let i : ℕ = order_of g - 1 - k in
          let below : i < n = omega arith in
          let fits = row_fits i w n w below (omega arith) in
          let at : set_at w (sets ++ set) i ≡ set_at w sets i = set_at-append_left w i sets set (omega arith) in
          subst (IsReachOf g k) (sym at) (so.each k (omega arith) high))
          (cases_eq k v);
    }

-- at first there is no set
pub AreReachSets-none : (g : Graph) → AreReachSets g (order_of g) []
AreReachSets-none g = record {
  room = let none : order_of g - order_of g ≡ 0 = omega arith in let zero : 0 ≡ 0 * words_for (order_of g) = omega arith in zero ∙ sym (ap (λ (m : ℕ). m * words_for (order_of g)) none);
  each = λ k low high. absurd (omega arith);
}

pub IsReducedFrom-more : (g r r' : Graph) (v : ℕ) (sets set : List ℕ) → v < order_of g → IsReducedFrom g r (v + 1) sets → IsReachOf g v set → IsReducedAt g r' v → ((a : ℕ) → a ≢ v → successors_of r' a ≡ successors_of r a) → r'.weights ≡ g.weights → IsGraph r' → IsReducedFrom g r' v (sets ++ set)
IsReducedFrom-more g r r' v sets set inside so reach here others weights form = record {
  weights = weights;
  form = form;
  reached = AreReachSets-more g v sets set inside so.reached reach;
  done = λ a low. ⊎_elim
      (λ (e : a ≡ v). subst (λ (j : ℕ). IsReducedAt g r' j) (sym e) here)
      (λ (e : a ≢ v). IsReducedAt-same g r r' a (others a e) (so.done a (omega arith)))
      (cases_eq a v);
  none = λ a low. let e : a ≢ v = omega arith in others a e ∙ so.none a (omega arith);
}

-- the set of a later vertex is where the reduction looks for it
pub set_room : (g : Graph) (v x n w : ℕ) (sets : List ℕ) → AreReachSets g (v + 1) sets → n ≡ order_of g → w ≡ words_for (order_of g) → v < x → x < order_of g → (n - 1 - x) * w + w ≤ length sets
set_room g v x n w sets so same size later within =
    let room = so.room in
    let below : n - 1 - x < order_of g - (v + 1) = omega arith in
    let fits = row_fits (n - 1 - x) w (order_of g - (v + 1)) (words_for (order_of g)) below (omega arith) in
    omega arith

-- and it has what can be reached from that vertex
pub set_reached : (g : Graph) (v x n w : ℕ) (sets set : List ℕ) → AreReachSets g (v + 1) sets → n ≡ order_of g → w ≡ words_for (order_of g) → v < x → x < order_of g → set ≡ set_at w sets (n - 1 - x) → IsReachOf g x set
set_reached g v x n w sets set so same size later within is =
    let index : n - 1 - x ≡ order_of g - 1 - x = omega arith in
    let at : set ≡ set_at (words_for (order_of g)) sets (order_of g - 1 - x) = is ∙ ap (λ (j : ℕ). set_at w sets j) index ∙ ap (λ (m : ℕ). set_at m sets (order_of g - 1 - x)) size in
    subst (IsReachOf g x) (sym at) (so.each x (omega arith) within)
