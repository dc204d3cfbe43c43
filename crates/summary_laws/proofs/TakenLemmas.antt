-- Traces that are taken in are those that were there and those that came.
use Rattle.std.proofs.Common.{◌≡◌, ◌⊎◌, ◌↔◌, ◌+◌, Bool, true, false, List, [], ◌∷◌, ◌++◌, length, ⊎_elim, inl, inr, arith, length-append}
use Rattle.std.specs.Prelude.{nat_le, if◌then◌else◌}
use Rattle.std.specs.List.{Contains}
use Rattle.digest_facts.proofs.ListLemmas.{append_has}
use Rattle.digest_facts.proofs.UnionLemmas.{cons_cases, cons_there, nil_has}
use Rattle.session_rules.specs.KeptTraces.{Kept, day_of, taken_in, with_taken}
use Rattle.trace_types.proofs.ListingLemmas.{Contains-here}

-- ---- one trace more
one_has : (before : Bool) (k t x : Kept) (kept more : List Kept) → Contains more x ↔ ((t ≡ x) ⊎ Contains kept x) → Contains (if before then k ∷ more else t ∷ k ∷ kept) x ↔ ((t ≡ x) ⊎ Contains (k ∷ kept) x)
one_has true k t x kept more h = (
  (λ c. ⊎_elim (λ (e : k ≡ x). inr (Contains-here k kept x e)) (λ (d : Contains more x). ⊎_elim (λ (e : t ≡ x). inl e) (λ (f : Contains kept x). inr (cons_there k kept x f)) (h.0 d)) (cons_cases k more x c)),
  (λ s. ⊎_elim (λ (e : t ≡ x). cons_there k more x (h.1 (inl e))) (λ (d : Contains (k ∷ kept) x). ⊎_elim (λ (e : k ≡ x). Contains-here k more x e) (λ (f : Contains kept x). cons_there k more x (h.1 (inr f))) (cons_cases k kept x d)) s),
)
one_has false k t x kept more h = (
  (λ c. cons_cases t (k ∷ kept) x c),
  (λ s. ⊎_elim (λ (e : t ≡ x). Contains-here t (k ∷ kept) x e) (λ (d : Contains (k ∷ kept) x). cons_there t (k ∷ kept) x d) s),
)

one_length : (before : Bool) (k t : Kept) (kept more : List Kept) → length more ≡ length kept + 1 → length (if before then k ∷ more else t ∷ k ∷ kept) ≡ length kept + 2
one_length true k t kept more e = omega arith
one_length false k t kept more e = omega arith

taken_has : (kept : List Kept) (t x : Kept) → Contains (taken_in kept t) x ↔ ((t ≡ x) ⊎ Contains kept x)
taken_has [] t x = ((λ c. cons_cases t [] x c), (λ s. ⊎_elim (λ (e : t ≡ x). Contains-here t [] x e) (λ (d : Contains [] x). absurd (nil_has x d)) s))
taken_has (k ∷ kept) t x = one_has (nat_le (day_of k) (day_of t)) k t x kept (taken_in kept t) (taken_has kept t x)

taken_length : (kept : List Kept) (t : Kept) → length (taken_in kept t) ≡ length kept + 1
taken_length [] t = omega arith
taken_length (k ∷ kept) t = let e = one_length (nat_le (day_of k) (day_of t)) k t kept (taken_in kept t) (taken_length kept t) in omega (arith, e)

-- ---- all of them
pub with_has : (kept ts : List Kept) (x : Kept) → Contains (with_taken kept ts) x ↔ (Contains kept x ⊎ Contains ts x)
with_has kept [] x = ((λ c. inl c), (λ s. ⊎_elim (λ (c : Contains kept x). c) (λ (d : Contains [] x). absurd (nil_has x d)) s))
with_has kept (t ∷ ts) x =
    let later = with_has (taken_in kept t) ts x in
    let one = taken_has kept t x in (
      (λ c. ⊎_elim
          (λ (d : Contains (taken_in kept t) x). ⊎_elim (λ (e : t ≡ x). inr (Contains-here t ts x e)) (λ (f : Contains kept x). inl f) (one.0 d))
          (λ (d : Contains ts x). inr (cons_there t ts x d))
          (later.0 c)),
      (λ s. ⊎_elim
          (λ (c : Contains kept x). later.1 (inl (one.1 (inr c))))
          (λ (d : Contains (t ∷ ts) x). ⊎_elim (λ (e : t ≡ x). later.1 (inl (one.1 (inl e)))) (λ (f : Contains ts x). later.1 (inr f)) (cons_cases t ts x d))
          s),
    )

pub with_length : (kept ts : List Kept) → length (with_taken kept ts) ≡ length kept + length ts
with_length kept [] = omega arith
with_length kept (t ∷ ts) = let e = with_length (taken_in kept t) ts in let f = taken_length kept t in omega (arith, e, f)

-- traces in the order of their days are the traces
pub sorted_has : (ts : List Kept) (x : Kept) → Contains (with_taken [] ts) x ↔ Contains ts x
sorted_has ts x = (
  (λ c. ⊎_elim (λ (d : Contains [] x). absurd (nil_has x d)) (λ (d : Contains ts x). d) ((with_has [] ts x).0 c)),
  (λ c. (with_has [] ts x).1 (inr c)),
)

-- and those of two lists are those of both, one after the other
pub parts_have : (ts us : List Kept) (x : Kept) → Contains (with_taken [] ts ++ with_taken [] us) x ↔ Contains (with_taken [] (ts ++ us)) x
parts_have ts us x = (
  (λ c. (sorted_has (ts ++ us) x).1 ((append_has ts us x).1 (⊎_elim (λ (d : Contains (with_taken [] ts) x). inl ((sorted_has ts x).0 d)) (λ (d : Contains (with_taken [] us) x). inr ((sorted_has us x).0 d)) ((append_has (with_taken [] ts) (with_taken [] us) x).0 c)))),
  (λ c. (append_has (with_taken [] ts) (with_taken [] us) x).1 (⊎_elim (λ (d : Contains ts x). inl ((sorted_has ts x).1 d)) (λ (d : Contains us x). inr ((sorted_has us x).1 d)) ((append_has ts us x).0 ((sorted_has (ts ++ us) x).0 c)))),
)

pub parts_length : (ts us : List Kept) → length (with_taken [] ts ++ with_taken [] us) ≡ length (with_taken [] (ts ++ us))
parts_length ts us =
    let a = with_length [] ts in
    let b = with_length [] us in
    let c = with_length [] (ts ++ us) in
    let d = length-append ts us in
    let e = length-append (with_taken [] ts) (with_taken [] us) in
    omega (arith, a, b, c, d, e)
