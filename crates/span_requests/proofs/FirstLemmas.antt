-- The order of first sight of what has keys.
use Rattle.std.proofs.Common.{◌≡◌, List, [], ◌∷◌, ◌++◌, filter, Bool, true, false, not, if◌then◌else◌, refl, sym, ◌∙◌, subst, true≢false, append-nil}
use Rattle.std.specs.List.{list_any}
use Rattle.std.proofs.lemmas.List.Elements.{filter-append}
use Rattle.trace_types.specs.Firsts.{firsts_of}

-- a filter that loses none that passes p leaves whether some passes p
pub any-filter : {X : Type 0} (p q : X → Bool) → ((z : X) → p z ≡ true → q z ≡ true) → (xs : List X) → list_any p (filter q xs) ≡ list_any p xs
any-filter p q keeps [] = refl
any-filter p q keeps (x ∷ xs) = by (q x) (p x) refl refl (any-filter p q keeps xs)
  where
    by : (b c : Bool) → q x ≡ b → p x ≡ c → list_any p (filter q xs) ≡ list_any p xs → list_any p (filter q (x ∷ xs)) ≡ list_any p (x ∷ xs)
    by true c e f rest = rw (e, rest) refl
    by false true e f rest = absurd (true≢false (sym (keeps x f) ∙ e))
    by false false e f rest = rw (e, f, rest) refl

module _ {X K : Type 0} (key : X → K) (eq : K → K → Bool) (means : (k l : K) → eq k l ≡ true → k ≡ l) (own : (k : K) → eq k k ≡ true) where
  abbrev pub same : X → X → Bool
  same x y = eq (key x) (key y)

  pub flips : (x y : X) → same x y ≡ false → same y x ≡ false
  flips x y h = by (same y x) refl
    where
      by : (b : Bool) → same y x ≡ b → same y x ≡ false
      by true e = absurd (true≢false (sym (own (key x)) ∙ subst (λ (k : K). eq (key x) k ≡ false) (means (key y) (key x) e) h))
      by false e = e

  -- the order of first sight with one more at the end
  pub firsts-push : (xs : List X) (x : X) → firsts_of same (xs ++ x ∷ []) ≡ (if list_any (same x) (firsts_of same xs) then firsts_of same xs else firsts_of same xs ++ x ∷ [])
  firsts-push [] x = refl
  firsts-push (y ∷ ys) x = by (same x y) (list_any (same x) (firsts_of same ys)) refl refl (firsts-push ys x)
    where
      keeps : same x y ≡ false → (z : X) → same x z ≡ true → not (same y z) ≡ true
      keeps e z h = let f : same y x ≡ false = flips x y e in let g : same y z ≡ false = subst (λ (k : K). eq (key y) k ≡ false) (means (key x) (key z) h) f in rw g refl

      by : (b c : Bool) → same x y ≡ b → list_any (same x) (firsts_of same ys) ≡ c
          → firsts_of same (ys ++ x ∷ []) ≡ (if list_any (same x) (firsts_of same ys) then firsts_of same ys else firsts_of same ys ++ x ∷ [])
          → firsts_of same ((y ∷ ys) ++ x ∷ []) ≡ (if list_any (same x) (firsts_of same (y ∷ ys)) then firsts_of same (y ∷ ys) else firsts_of same (y ∷ ys) ++ x ∷ [])
      by true true e f r = rw (r, f, e) refl
      by true false e f r = let g : same y x ≡ true = subst (λ (k : K). eq k (key x) ≡ true) (means (key x) (key y) e) (own (key x)) in
          rw (r, f, e, filter-append (λ z. not (same y z)) (firsts_of same ys) (x ∷ []), g, append-nil (filter (λ z. not (same y z)) (firsts_of same ys))) refl
      by false true e f r = let a = any-filter (same x) (λ z. not (same y z)) (keeps e) (firsts_of same ys) in rw (r, f, e, a, f) refl
      by false false e f r = let g : same y x ≡ false = flips x y e in let a = any-filter (same x) (λ z. not (same y z)) (keeps e) (firsts_of same ys) in
          rw (r, f, e, a, f, filter-append (λ z. not (same y z)) (firsts_of same ys) (x ∷ []), g) refl
