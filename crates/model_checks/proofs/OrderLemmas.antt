-- Lists of exactly some elements, each once, in rising order.
use Rattle.std.proofs.Common.{◌≡◌, ◌≢◌, List, get_or, arith, IsPermutation, IsSorted, Ordering}
use Rattle.std.specs.declared.cmp.Ordering.TheVariants.{Less, Equal}
use Rattle.std.specs.List.{AllPairs}
use Rattle.std.specs.Cmp.{IsTotalOrder}
use Rattle.std.specs.Ordering.{is_lt, eq_by_cmp}
use Rattle.std.proofs.lemmas.Bool.{false_from_ne_true}
use Rattle.std.proofs.lemmas.Cmp.{eq_by_cmp_equiv}
use Rattle.std.proofs.lemmas.List.Sorted.{ranks_by, sorted_far}
use Rattle.std.proofs.lemmas.Map.Keys.{apart_from_distinct, IsDistinct-from_apart, IsDistinct-IsPermutation}
use Rattle.trace_types.proofs.ComparingLemmas.{less_from, equal_from}

-- ---- the order
module _ {X : Type 0} (cmp : X → X → Ordering) (total : IsTotalOrder cmp) where
  -- what a sort leaves of a list with no element twice rises
  pub rising_from_sort : ((x y : X) → cmp x y ≡ Equal → x ≡ y) → (xs ys : List X) → IsPermutation xs ys → AllPairs (λ x y. x ≢ y) xs → IsSorted cmp ys → AllPairs (λ x y. cmp x y ≡ Less) ys
  rising_from_sort exact xs ys moved differ sorted i j d lt inside =
      let apart = IsDistinct-from_apart (eq_by_cmp cmp) xs (λ m n e k h. false_from_ne_true (eq_by_cmp cmp (get_or xs m e) (get_or xs n e)) (λ t. differ m n e k h (exact (get_or xs m e) (get_or xs n e) (equal_from (cmp (get_or xs m e) (get_or xs n e)) t)))) in
      less_from (cmp (get_or ys i d) (get_or ys j d)) (cmp (get_or ys j d) (get_or ys i d)) (total.antisymm (get_or ys i d) (get_or ys j d))
      (sorted_far (λ x y. is_lt (cmp x y)) (ranks_by total (λ (x : X). x)) ys sorted i j d (omega arith) inside)
      (apart_from_distinct (eq_by_cmp cmp) ys i j d (IsDistinct-IsPermutation (eq_by_cmp cmp) (eq_by_cmp_equiv total).symm xs ys moved apart) lt inside)

-- ---- lists of exactly some elements
