-- Maps with the same keys.
use Rattle.std.proofs.Common.{◌≡◌, ℕ, zero, suc, ◌<◌, List, [], ◌∷◌, length, is_some, IsSome, refl, ap, sym, ◌∙◌, subst, inl, inr, arith, rules}
use Rattle.std.proofs.lemmas.Bool.{cases_eq, false≢true}
use Rattle.std.specs.Ordering.{nat_cmp}
use Rattle.std.specs.FinMap.{FinMap, get, remove, len, entries, find, gets, get-entries, len-entries, get-empty, empty_of_len}
use Rattle.row_pool.proofs.MapLemmas.{get-remove_other, get-remove_same, len-remove_old}

module _ {X : Type 0} where
  first_entry : (es : List (ℕ × X)) → 0 < length es → (k : ℕ) × IsSome (find nat_cmp k es)
  first_entry [] l = absurd (omega arith)
  first_entry ((k, v) ∷ es) l = (k, Prim.grind (gets, rules))

  some_key : (m : FinMap nat_cmp X) → 0 < len m → (k : ℕ) × IsSome (get m k)
  some_key m l =
      let e = first_entry (entries m) (omega (arith, len-entries m)) in
      (e.0, subst (λ o. IsSome o) (sym (get-entries m e.0)) e.1)

  not_in_empty : (m : FinMap nat_cmp X) (k : ℕ) → len m ≡ 0 → IsSome (get m k) → ⊥
  not_in_empty m k e there = false≢true (sym (ap is_some (ap (λ n. get n k) (empty_of_len m e) ∙ get-empty nat_cmp k)) ∙ there)

  abbrev SameKeys : FinMap nat_cmp X → FinMap nat_cmp X → Type 0
  SameKeys m n = (k : ℕ) → is_some (get m k) ≡ is_some (get n k)

  removed_keys : (m n : FinMap nat_cmp X) (k : ℕ) → SameKeys m n → SameKeys (remove m k) (remove n k)
  removed_keys m n k same = λ q. elim (cases_eq q k) [
    | inl e ↦ ap (λ i. is_some (get (remove m k) i)) e ∙ ap is_some (get-remove_same m k) ∙ sym (ap is_some (get-remove_same n k)) ∙ sym (ap (λ i. is_some (get (remove n k) i)) e)
    | inr e ↦ ap is_some (get-remove_other m k q e) ∙ same q ∙ sym (ap is_some (get-remove_other n k q e))
  ]

  same_len_by : (c : ℕ) (m n : FinMap nat_cmp X) → len m ≡ c → SameKeys m n → len m ≡ len n
  same_len_by zero m n e same = elim (cases_eq (len n) 0) [
    | inl none ↦ e ∙ sym none
    | inr some ↦ let k = some_key n (omega arith) in absurd (not_in_empty m k.0 e (same k.0 ∙ k.1))
  ]
  same_len_by (suc c) m n e same =
      let k = some_key m (omega arith) in
      let a = len-remove_old m k.0 k.1 in
      let b = len-remove_old n k.0 (sym (same k.0) ∙ k.1) in
      let rest = same_len_by c (remove m k.0) (remove n k.0) (omega arith) (removed_keys m n k.0 same) in
      omega arith

  pub same_len : (m n : FinMap nat_cmp X) → SameKeys m n → len m ≡ len n
  same_len m n same = same_len_by (len m) m n refl same
