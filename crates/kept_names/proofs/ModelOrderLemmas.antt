-- Lists of exactly some elements, each once, in rising order.
use Rattle.std.proofs.Common.{◌≡◌, List, get_or, refl, ap, ◌∙◌, arith, IsPermutation, IsSorted, Ordering}
use Rattle.std.specs.declared.cmp.Ordering.TheVariants.{Less, Equal, Greater}
use Rattle.std.specs.List.{AllPairs}
use Rattle.std.specs.Cmp.{IsTotalOrder}
use Rattle.std.specs.Ordering.{is_lt, eq_by_cmp, ordering_reverse}
use Rattle.std.proofs.lemmas.Bool.{false_from_ne_true}
use Rattle.std.proofs.lemmas.Cmp.{eq_by_cmp_equiv}
use Rattle.std.proofs.lemmas.List.Sorted.{ranks_by, sorted_far}
use Rattle.std.proofs.lemmas.Map.Keys.{apart_from_distinct, IsDistinct-from_apart, IsDistinct-IsPermutation}
use Rattle.trace_types.proofs.ComparingLemmas.{less_from, equal_from, less_differs}

-- ---- the order
module _ {X : Type 0} (cmp : X → X → Ordering) (total : IsTotalOrder cmp) where
  -- what a sort leaves of a list in which no two are equal rises
  pub rising_from_sort : (xs ys : List X) → IsPermutation xs ys → AllPairs (λ x y. cmp x y ≡ Equal → ⊥) xs → IsSorted cmp ys → AllPairs (λ x y. cmp x y ≡ Less) ys
  rising_from_sort xs ys moved differ sorted i j d lt inside =
      let apart = IsDistinct-from_apart (eq_by_cmp cmp) xs (λ m n e k h. false_from_ne_true (eq_by_cmp cmp (get_or xs m e) (get_or xs n e)) (λ t. differ m n e k h (equal_from (cmp (get_or xs m e) (get_or xs n e)) t))) in
      less_from (cmp (get_or ys i d) (get_or ys j d)) (cmp (get_or ys j d) (get_or ys i d)) (total.antisymm (get_or ys i d) (get_or ys j d))
      (sorted_far (λ x y. is_lt (cmp x y)) (ranks_by total (λ (x : X). x)) ys sorted i j d (omega arith) inside)
      (apart_from_distinct (eq_by_cmp cmp) ys i j d (IsDistinct-IsPermutation (eq_by_cmp cmp) (eq_by_cmp_equiv total).symm xs ys moved apart) lt inside)

  -- nothing is less than itself, nor two each than the other
  pub not_less_itself : (x : X) → cmp x x ≡ Less → ⊥
  not_less_itself x l = less_differs cmp total x x l refl

  pub not_both_less : (x y : X) → cmp x y ≡ Less → cmp y x ≡ Less → ⊥
  not_both_less x y l m = let t : cmp x y ≡ Greater = total.antisymm x y ∙ ap ordering_reverse m in cc

-- ---- lists of exactly some elements
-- ---- names and texts
