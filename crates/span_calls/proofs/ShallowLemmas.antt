-- What stands below a span is finitely deep, since callers come to an end.
use Rattle.std.proofs.Common.{◌≡◌, ℕ, zero, suc, ◌+◌, ◌<◌, List, [], All, true, Option, Some, None, length, get_or, sym, ap, ◌∙◌, subst, arith, true≢false}
use Rattle.std.specs.Option.{option_and_then}
use Rattle.std.proofs.lemmas.Bool.{eqb-true}
use Rattle.std.proofs.lemmas.List.Elements.{All-filter, All-from_get_or, All-get_or, All-weaker, filter_passes}
use Rattle.call_trees.specs.Below.{below_all, below_one, is_number}
use Rattle.call_trees.specs.Walks.{IsShallow}
use Rattle.call_trees.proofs.GroupLemmas.{group_at, groups_length}
use Rattle.span_requests.specs.CallerNumbers.{HaveLastCallers, number_above}

is_some_number : (n : ℕ) (o : Option ℕ) → is_number n o ≡ true → o ≡ Some n
is_some_number n None h = absurd (true≢false (sym h))
is_some_number n (Some m) h = ap (λ k. Some k) (eqb-true m n h)

module _ (callers : List (Option ℕ)) (order : List ℕ) (last : HaveLastCallers callers) (within : All (λ j. j < length callers) order) where
  each_below : (m y : ℕ) → ((z : ℕ) → z < length callers → is_number y (get_or callers z None) ≡ true → IsShallow (below_all callers order) m z) → All (IsShallow (below_all callers order) m) (below_one callers order y)
  each_below m y step = All-from_get_or (IsShallow (below_all callers order) m) (below_one callers order y) 0 (λ i small.
      step (get_or (below_one callers order y) i 0)
      (All-get_or (λ j. j < length callers) (below_one callers order y) i 0 small (All-filter (λ j. is_number y (get_or callers j None)) (λ j. j < length callers) order within))
      (All-get_or (λ j. is_number y (get_or callers j None) ≡ true) (below_one callers order y) i 0 small (filter_passes (λ j. is_number y (get_or callers j None)) order)))

  -- a number with this many callers above it has the rest of them below it at most
  deep : (m k y : ℕ) → k + m ≡ length callers → y < length callers → (number_above callers k y ≡ None → ⊥) → IsShallow (below_all callers order) m y
  deep zero k y size lt some = absurd (some (ap (λ n. number_above callers n y) (let e : k ≡ length callers = omega arith in e) ∙ last y lt))
  deep (suc m) k y size lt some = (
    omega (arith, lt, groups_length callers order),
    subst (All (IsShallow (below_all callers order) m)) (sym (group_at callers order y [] lt))
        (each_below m y (λ z less own. deep m (suc k) z (omega (arith, size)) less (λ none. some (sym (ap (option_and_then (number_above callers k)) (is_some_number y (get_or callers z None) own)) ∙ none)))),
  )

  pub shallow : (y : ℕ) → y < length callers → IsShallow (below_all callers order) (length (below_all callers order)) y
  shallow y lt = subst (λ n. IsShallow (below_all callers order) n y) (sym (groups_length callers order)) (deep (length callers) 0 y (let e : 0 + length callers ≡ length callers = omega arith in e) lt (λ none. gone none))
    where
      gone : Some y ≡ None → ⊥
      gone e = cc

  pub all_shallow : (roots : List ℕ) → All (λ j. j < length callers) roots → All (IsShallow (below_all callers order) (length (below_all callers order))) roots
  all_shallow roots h = All-weaker (λ j. j < length callers) (IsShallow (below_all callers order) (length (below_all callers order))) shallow roots h
