-- Where a name stands, by the indices of its texts.
use Rattle.std.proofs.Common.{◌≡◌, ℕ, suc, ◌<◌, List, [], ◌∷◌, length, get_or, map, position, slice_get, Some, None, Bool, true, false, cond, nat_lt, nat_eq, refl, sym, ap, ◌∙◌, subst, ⊎_elim, true≢false, arith}
use Rattle.std.proofs.lemmas.Bool.{cases_order, lt-ltb, le-ltb, eq-eqb, ne_eqb}
use Rattle.std.proofs.lemmas.List.{length-map, get_or_default}
use Rattle.std.proofs.lemmas.List.Sums.{fails_before_first, position_or_len_is}
use Rattle.std.proofs.lemmas.List.Quantifiers.{position-Some}
use Rattle.std.proofs.lemmas.List.Folds.{list_any_at, list_any_none}
use Rattle.std.proofs.lemmas.Option.{get_or_from_slice_get, slice_get_within, slice_get_read}
use Rattle.std.specs.List.{list_any, position_or_len}
use Rattle.event_table.specs.Texts.{AreDifferent}

-- ---- the first element that passes

module _ {X : Type 0} (p : X → Bool) where
  pub none-passes : (xs : List X) → position p xs ≡ None → (k : ℕ) (d : X) → k < length xs → p (get_or xs k d) ≡ false
  none-passes xs none k d h = ⊎_elim
      (λ (e : position_or_len p xs ≡ length xs). fails_before_first p xs k d (omega arith))
      (⊎_elim
      (λ (l : position_or_len p xs < length xs). let t : nat_lt (position_or_len p xs) (length xs) ≡ true = lt-ltb (position_or_len p xs) (length xs) l in
      absurd (let s : Some (position_or_len p xs) ≡ None = sym (ap (λ (b : Bool). cond b (Some (position_or_len p xs)) None) t) ∙ none in cc))
      (λ (l : length xs < position_or_len p xs). fails_before_first p xs k d (omega arith)))
      (cases_order (position_or_len p xs) (length xs))

  pub position-none : (xs : List X) → ((k : ℕ) (d : X) → k < length xs → p (get_or xs k d) ≡ false) → position p xs ≡ None
  position-none [] all = refl
  position-none (x ∷ xs) all = let q = position_or_len_is p (x ∷ xs) (length (x ∷ xs)) x (omega arith) (λ k h. all k x h) (λ h. absurd (omega arith)) in
      let t : nat_lt (position_or_len p (x ∷ xs)) (length (x ∷ xs)) ≡ false = le-ltb (position_or_len p (x ∷ xs)) (length (x ∷ xs)) (omega arith) in
      ap (λ (b : Bool). cond b (Some (position_or_len p (x ∷ xs))) None) t

  -- the first element that passes stands here
  pub position-at : (xs : List X) (i : ℕ) (d : X) → i < length xs → ((k : ℕ) → k < i → p (get_or xs k d) ≡ false) → p (get_or xs i d) ≡ true → position p xs ≡ Some i
  position-at xs i d h before at =
      let q = position_or_len_is p xs i d (omega arith) before (λ l. at) in
      let t : nat_lt (position_or_len p xs) (length xs) ≡ true = lt-ltb (position_or_len p xs) (length xs) (omega arith) in
      ap (λ (b : Bool). cond b (Some (position_or_len p xs)) None) t ∙ ap Some q

  pub any-none : (xs : List X) → position p xs ≡ None → list_any p xs ≡ false
  any-none xs none = list_any_none p xs (none-passes xs none)

  pub any-some : (xs : List X) (i : ℕ) → position p xs ≡ Some i → list_any p xs ≡ true
  any-some [] i e = absurd (let s : None ≡ Some i = e in cc)
  any-some (x ∷ xs) i e = let q = position-Some p (x ∷ xs) i x e in list_any_at p (x ∷ xs) i x q.0 q.1

-- ---- two tests that agree on each element

module _ {E X Y : Type 0} (f : E → X) (g : E → Y) (p : X → Bool) (q : Y → Bool) where
  prefixes-alike : (es : List E) → ((k : ℕ) (d : E) → k < length es → p (f (get_or es k d)) ≡ q (g (get_or es k d))) → position_or_len p (map f es) ≡ position_or_len q (map g es)
  prefixes-alike [] all = refl
  prefixes-alike (e ∷ es) all = rw (all 0 e (omega arith), prefixes-alike es (λ k d h. all (suc k) d (omega arith))) refl

  pub positions-alike : (es : List E) → ((k : ℕ) (d : E) → k < length es → p (f (get_or es k d)) ≡ q (g (get_or es k d))) → position p (map f es) ≡ position q (map g es)
  positions-alike es all = let e = prefixes-alike es all in let l : length (map f es) ≡ length (map g es) = length-map es f ∙ sym (length-map es g) in
      λ j. cond (nat_lt (e j) (l j)) (Some (e j)) None

-- ---- indices of elements that differ

module _ {X : Type 0} (same : X → X → Bool) (means : (x y : X) → same x y ≡ true → x ≡ y) (own : (x : X) → same x x ≡ true) where
  -- indices are equal where the elements are
  pub index-means : (xs : List X) → AreDifferent xs → (i j : ℕ) (x y : X) → slice_get xs i ≡ Some x → slice_get xs j ≡ Some y → nat_eq i j ≡ same x y
  index-means xs differ i j x y ei ej =
      let gi : get_or xs i x ≡ x = get_or_from_slice_get xs i x x ei in
      let gj : get_or xs j x ≡ y = get_or_from_slice_get xs j y x ej in
      let li = slice_get_within xs i x ei in
      let lj = slice_get_within xs j y ej in
      by (same x y) refl gi gj li lj
    where
      by : (b : Bool) → same x y ≡ b → get_or xs i x ≡ x → get_or xs j x ≡ y → i < length xs → j < length xs → nat_eq i j ≡ same x y
      by true e gi gj li lj = let s : get_or xs i x ≡ get_or xs j x = gi ∙ means x y e ∙ sym gj in ⊎_elim
          (λ (h : i ≡ j). eq-eqb i j h ∙ sym e)
          (⊎_elim (λ (h : i < j). absurd (differ i j x h lj s)) (λ (h : j < i). absurd (differ j i x h li (sym s))))
          (cases_order i j)
      by false e gi gj li lj = ne_eqb i j (λ h. true≢false (sym (own x) ∙ subst (λ (z : X). same x z ≡ false) (sym gj ∙ ap (λ (k : ℕ). get_or xs k x) (sym h) ∙ gi) e)) ∙ sym e

  -- the element that was looked for stands where it was found
  pub found-there : (xs : List X) (x : X) (i : ℕ) → position (same x) xs ≡ Some i → slice_get xs i ≡ Some x
  found-there [] x i e = absurd (let s : None ≡ Some i = e in cc)
  found-there (y ∷ ys) x i e = let q = position-Some (same x) (y ∷ ys) i y e in
      slice_get_read (y ∷ ys) (length (y ∷ ys)) i x refl q.0 (let t : get_or (y ∷ ys) i x ≡ get_or (y ∷ ys) i y = get_or_default (y ∷ ys) i x y q.0 in means x (get_or (y ∷ ys) i y) q.1 ∙ sym t)
