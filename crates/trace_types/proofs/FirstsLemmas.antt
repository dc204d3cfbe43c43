-- The order of first sight, where the test tells equality.
use Rattle.std.proofs.Common.{List, [], ◌∷◌, ◌++◌, Bool, if◌then◌else◌, ◌≡◌, filter, true, false, not, refl, sym, ◌∙◌, subst, true≢false, append-nil}
use Rattle.std.specs.List.{list_any}
use Rattle.std.proofs.lemmas.List.Elements.{filter-append}
use Rattle.trace_types.proofs.ShortLemmas.{any-filter}
use Rattle.trace_types.specs.Firsts.{firsts_of}

-- the list with one more at its end, unless it is there
abbrev pub with_key : {X : Type 0} → (X → X → Bool) → List X → X → List X
with_key same xs x = if list_any (same x) xs then xs else xs ++ x ∷ []

module _ {X : Type 0} (same : X → X → Bool) (means : (x y : X) → same x y ≡ true → x ≡ y) (own : (x : X) → same x x ≡ true) where
  pub flips : (x y : X) → same x y ≡ false → same y x ≡ false
  flips x y h = by (same y x) refl
    where
      by : (b : Bool) → same y x ≡ b → same y x ≡ false
      by true e = absurd (true≢false (sym (own x) ∙ subst (λ (z : X). same x z ≡ false) (means y x e) h))
      by false e = e

  -- the order of first sight with one more at the end
  pub firsts-push : (xs : List X) (x : X) → firsts_of same (xs ++ x ∷ []) ≡ with_key same (firsts_of same xs) x
  firsts-push [] x = refl
  firsts-push (y ∷ ys) x = by (same x y) (list_any (same x) (firsts_of same ys)) refl refl (firsts-push ys x)
    where
      rest : List X
      rest = firsts_of same ys

      other : X → Bool
      other = λ z. not (same y z)

      keeps : same x y ≡ false → (z : X) → same x z ≡ true → not (same y z) ≡ true
      keeps e z h = let f : same y x ≡ false = flips x y e in let g : same y z ≡ false = subst (λ (w : X). same y w ≡ false) (means x z h) f in rw g refl

      by : (b c : Bool) → same x y ≡ b → list_any (same x) (firsts_of same ys) ≡ c → firsts_of same (ys ++ x ∷ []) ≡ with_key same (firsts_of same ys) x
          → firsts_of same ((y ∷ ys) ++ x ∷ []) ≡ with_key same (firsts_of same (y ∷ ys)) x
      by true true e f r = rw (r, f, e) refl
      by true false e f r = let g : same y x ≡ true = subst (λ (z : X). same z x ≡ true) (means x y e) (own x) in
          rw (r, f, e, filter-append (λ z. not (same y z)) (firsts_of same ys) (x ∷ []), g, append-nil (filter (λ z. not (same y z)) (firsts_of same ys))) refl
      by false true e f r = let a = any-filter (same x) (λ z. not (same y z)) (keeps e) (firsts_of same ys) in rw (r, f, e, a, f) refl
      by false false e f r = let g : same y x ≡ false = flips x y e in let a = any-filter (same x) (λ z. not (same y z)) (keeps e) (firsts_of same ys) in
          rw (r, f, e, a, f, filter-append (λ z. not (same y z)) (firsts_of same ys) (x ∷ []), g) refl
