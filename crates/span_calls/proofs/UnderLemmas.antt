-- What stands below a number, and what a walk from it lists.
use Rattle.std.proofs.Common.{◌≡◌, ◌⊎◌, inl, inr, ℕ, zero, suc, ◌+◌, ◌-◌, ◌<◌, ◌≤◌, List, [], All, true, Option, Some, None, length, get_or, refl, sym, ap, ◌∙◌, subst, arith, true≢false}
use Rattle.std.specs.Prelude.{IsSome}
use Rattle.std.specs.List.{flat_map}
use Rattle.std.specs.Option.{option_and_then}
use Rattle.std.proofs.lemmas.Bool.{cases_lt, cases_order, eqb-true}
use Rattle.std.proofs.lemmas.List.{get_or_past}
use Rattle.std.proofs.lemmas.List.Elements.{All-cons, All-nil, All-weaker, filter_passes}
use Rattle.call_trees.specs.Below.{below_all, below_one, is_number}
use Rattle.call_trees.specs.Walks.{walk_from}
use Rattle.call_trees.proofs.GroupLemmas.{group_at, groups_length}
use Rattle.span_requests.specs.CallerNumbers.{HaveLastCallers, number_above}
use Rattle.span_requests.proofs.CircleLemmas.{above_add, above_next, endless}
use Rattle.span_calls.proofs.PairLemmas.{all_flat}

pub some_none : (x : ℕ) → Some x ≡ None → ⊥
some_none x h = cc

pub some_is : (x y : ℕ) → Some x ≡ Some y → x ≡ y
some_is x y h = cc

pub is_some_number : (n : ℕ) (o : Option ℕ) → is_number n o ≡ true → o ≡ Some n
is_some_number n None h = absurd (true≢false (sym h))
is_some_number n (Some m) h = ap (λ k. Some k) (eqb-true m n h)

-- d is x, or stands below it
abbrev pub IsUnder : List (Option ℕ) → ℕ → ℕ → Type 0
IsUnder callers x d = (k : ℕ) × (number_above callers k d ≡ Some x)

-- above a number with a caller
pub above_caller : (callers : List (Option ℕ)) (k d p : ℕ) → get_or callers d None ≡ Some p → number_above callers (suc k) d ≡ number_above callers k p
above_caller callers k d p e = ap (option_and_then (number_above callers k)) e

module _ (callers : List (Option ℕ)) (order : List ℕ) where
  -- what is below a number has it as caller
  pub called_at : (x : ℕ) → All (λ y. get_or callers y None ≡ Some x) (get_or (below_all callers order) x [])
  called_at x = by (cases_lt x (length callers))
    where
      by : (x < length callers) ⊎ (length callers ≤ x) → All (λ y. get_or callers y None ≡ Some x) (get_or (below_all callers order) x [])
      by (inl lt) = subst (All (λ y. get_or callers y None ≡ Some x)) (sym (group_at callers order x [] lt))
          (All-weaker (λ j. is_number x (get_or callers j None) ≡ true) (λ y. get_or callers y None ≡ Some x) (λ y e. is_some_number x (get_or callers y None) e) (below_one callers order x) (filter_passes (λ j. is_number x (get_or callers j None)) order))
      by (inr ge) = subst (All (λ y. get_or callers y None ≡ Some x)) (sym (get_or_past (below_all callers order) x [] (omega (arith, ge, groups_length callers order)))) (All-nil (λ y. get_or callers y None ≡ Some x))

  -- a walk from a number lists what is below it
  pub all_under : (n x : ℕ) → All (IsUnder callers x) (walk_from (below_all callers order) n x)
  all_under zero x = All-nil (IsUnder callers x)
  all_under (suc n) x = All-cons (IsUnder callers x) x (flat_map (walk_from (below_all callers order) n) (get_or (below_all callers order) x [])) (0, refl)
      (all_flat (IsUnder callers x) (walk_from (below_all callers order) n) (get_or (below_all callers order) x [])
      (All-weaker (λ y. get_or callers y None ≡ Some x) (λ y. All (IsUnder callers x) (walk_from (below_all callers order) n y)) (λ y e. All-weaker (IsUnder callers y) (IsUnder callers x) (λ d u. (u.0 + 1, above_next callers u.0 d y x u.1 e)) (walk_from (below_all callers order) n y) (all_under n y))
      (get_or (below_all callers order) x []) (called_at x)))

module _ (callers : List (Option ℕ)) (last : HaveLastCallers callers) where
  -- no number stands above itself
  pub no_circle : (n x : ℕ) → 0 < n → number_above callers n x ≡ Some x → ⊥
  no_circle n x pos h = by (cases_lt x (length callers))
    where
      some : (o : Option ℕ) → o ≡ None → IsSome o → ⊥
      some None e i = true≢false (sym i)
      some (Some y) e i = some_none y e

      by : (x < length callers) ⊎ (length callers ≤ x) → ⊥
      by (inl lt) = some (number_above callers (length callers) x) (last x lt) (endless callers n x pos h (length callers))
      by (inr ge) = gone n pos h
        where
          gone : (m : ℕ) → 0 < m → number_above callers m x ≡ Some x → ⊥
          gone zero p e = omega (arith, p)
          gone (suc m) p e = some_none x (sym e ∙ ap (option_and_then (number_above callers m)) (get_or_past callers x None ge))

  -- what is below two numbers that one number calls, or none, is below one of them
  pub one_above : (k l d y z : ℕ) → number_above callers k d ≡ Some y → number_above callers l d ≡ Some z → get_or callers y None ≡ get_or callers z None → y ≡ z
  one_above k l d y z one two same = by (cases_order k l)
    where
      -- y is the nearer one
      nearer : (m n u v : ℕ) → m < n → number_above callers m d ≡ Some u → number_above callers n d ≡ Some v → get_or callers u None ≡ get_or callers v None → ⊥
      nearer m n u v lt a b e = at (get_or callers u None) refl
        where
          rest : number_above callers (suc (n - m - 1)) u ≡ Some v
          rest = sym (ap (λ i. number_above callers i d) (let q : n ≡ m + suc (n - m - 1) = omega (arith, lt) in q) ∙ above_add callers m (suc (n - m - 1)) d ∙ ap (option_and_then (number_above callers (suc (n - m - 1)))) a) ∙ b

          at : (o : Option ℕ) → get_or callers u None ≡ o → ⊥
          at None q = some_none v (sym rest ∙ ap (option_and_then (number_above callers (n - m - 1))) q)
          at (Some x) q = no_circle (n - m - 1 + 1) x (omega arith) (above_next callers (n - m - 1) x v x (sym (above_caller callers (n - m - 1) u x q) ∙ rest) (sym e ∙ q))

      by : (k ≡ l) ⊎ ((k < l) ⊎ (l < k)) → y ≡ z
      by (inl e) = some_is y z (sym one ∙ ap (λ n. number_above callers n d) e ∙ two)
      by (inr (inl lt)) = absurd (nearer k l y z lt one two same)
      by (inr (inr gt)) = absurd (nearer l k z y gt two one (sym same))
