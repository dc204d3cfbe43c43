-- Searches in lists.
use Rattle.std.proofs.Common.{◌≡◌, ℕ, suc, ◌||◌, true≢false, ◌+◌, ◌<◌, ◌≤◌, List, [], ◌∷◌, ◌++◌, Bool, true, false, cond, length, map, Some, slice_get, refl, sym, ap, ◌∙◌, arith}
use Rattle.std.specs.Prelude.{find, is_none, not, position}
use Rattle.std.specs.List.{list_any, position_or_len}
use Rattle.std.proofs.lemmas.List.{get_or_append_left, length-append, length-map}
use Rattle.std.proofs.lemmas.Option.{slice_get-get_or}

one-add : (n : ℕ) → 1 + n ≡ suc n
one-add n = omega arith

module _ {X Y : Type 0} (f : X → Y) (p : Y → Bool) where
  pub any-map : (xs : List X) → list_any p (map f xs) ≡ list_any (λ x. p (f x)) xs
  any-map [] = refl
  any-map (x ∷ xs) = rw (any-map xs) refl

  pub place-map : (xs : List X) → position_or_len p (map f xs) ≡ position_or_len (λ x. p (f x)) xs
  place-map [] = refl
  place-map (x ∷ xs) = rw (place-map xs) refl

  pub position-map : (xs : List X) → position p (map f xs) ≡ position (λ x. p (f x)) xs
  position-map xs = rw (place-map xs, length-map xs f) refl

module _ {X : Type 0} (p : X → Bool) where
  -- a place within the list is that of the first that passes
  pub found_at : (xs : List X) → find p xs ≡ slice_get xs (position_or_len p xs)
  found_at [] = refl
  found_at (x ∷ xs) = by (p x) refl (found_at xs)
    where
      by : (b : Bool) → p x ≡ b → find p xs ≡ slice_get xs (position_or_len p xs) → find p (x ∷ xs) ≡ slice_get (x ∷ xs) (position_or_len p (x ∷ xs))
      by true e r = rw e refl
      by false e r = rw (e, r, one-add (position_or_len p xs)) refl

  pub place_full : (xs : List X) → list_any p xs ≡ false → position_or_len p xs ≡ length xs
  place_full [] h = refl
  place_full (x ∷ xs) h = by (p x) refl h (place_full xs)
    where
      by : (b : Bool) → p x ≡ b → (p x || list_any p xs) ≡ false → (list_any p xs ≡ false → position_or_len p xs ≡ length xs) → position_or_len p (x ∷ xs) ≡ suc (length xs)
      by true e g r = absurd (true≢false (sym (ap (λ c. c || list_any p xs) e) ∙ g))
      by false e g r = let s = r (sym (ap (λ c. c || list_any p xs) e) ∙ g) in rw (e, s) (omega arith)

  pub place_short : (xs : List X) → list_any p xs ≡ true → position_or_len p xs < length xs
  place_short [] h = absurd (true≢false (sym h))
  place_short (x ∷ xs) h = by (p x) refl h (place_short xs)
    where
      by : (b : Bool) → p x ≡ b → (p x || list_any p xs) ≡ true → (list_any p xs ≡ true → position_or_len p xs < length xs) → position_or_len p (x ∷ xs) < suc (length xs)
      by true e g r = rw e (omega arith)
      by false e g r = let s = r (sym (ap (λ c. c || list_any p xs) e) ∙ g) in rw e (omega (arith, s))

  pub place_within : (xs : List X) → position_or_len p xs ≤ length xs
  place_within xs = by (list_any p xs) refl
    where
      by : (b : Bool) → list_any p xs ≡ b → position_or_len p xs ≤ length xs
      by true e = omega (arith, place_short xs e)
      by false e = omega (arith, place_full xs e)

  pub find_left : (xs ys : List X) → list_any p xs ≡ true → find p (xs ++ ys) ≡ find p xs
  find_left [] ys h = absurd (true≢false (sym h))
  find_left (x ∷ xs) ys h = by (p x) refl h (find_left xs ys)
    where
      by : (b : Bool) → p x ≡ b → (p x || list_any p xs) ≡ true → (list_any p xs ≡ true → find p (xs ++ ys) ≡ find p xs) → find p ((x ∷ xs) ++ ys) ≡ find p (x ∷ xs)
      by true e g r = rw e refl
      by false e g r = let s = r (sym (ap (λ c. c || list_any p xs) e) ∙ g) in rw (e, s) refl

  pub find_right : (xs ys : List X) → list_any p xs ≡ false → find p (xs ++ ys) ≡ find p ys
  find_right [] ys h = refl
  find_right (x ∷ xs) ys h = by (p x) refl h (find_right xs ys)
    where
      by : (b : Bool) → p x ≡ b → (p x || list_any p xs) ≡ false → (list_any p xs ≡ false → find p (xs ++ ys) ≡ find p ys) → find p ((x ∷ xs) ++ ys) ≡ find p ys
      by true e g r = absurd (true≢false (sym (ap (λ c. c || list_any p xs) e) ∙ g))
      by false e g r = let s = r (sym (ap (λ c. c || list_any p xs) e) ∙ g) in rw (e, s) refl

  -- what is found at a place within is found in any list that begins so
  pub any_from_place : (xs : List X) → position_or_len p xs < length xs → list_any p xs ≡ true
  any_from_place xs lt = by (list_any p xs) refl
    where
      by : (b : Bool) → list_any p xs ≡ b → list_any p xs ≡ true
      by true e = e
      by false e = absurd (omega (arith, lt, place_full xs e))

  pub any_from_find : (xs : List X) (x : X) → find p xs ≡ Some x → list_any p xs ≡ true
  any_from_find [] x h = cc
  any_from_find (y ∷ xs) x h = by (p y) refl h (any_from_find xs x)
    where
      by : (b : Bool) → p y ≡ b → find p (y ∷ xs) ≡ Some x → (find p xs ≡ Some x → list_any p xs ≡ true) → list_any p (y ∷ xs) ≡ true
      by true e g r = rw e refl
      by false e g r = let s = r (sym (ap (λ c. cond c (Some y) (find p xs)) e) ∙ g) in rw (e, s) refl

  pub is_none-find : (xs : List X) → is_none (find p xs) ≡ not (list_any p xs)
  is_none-find [] = refl
  is_none-find (y ∷ xs) = by (p y) refl (is_none-find xs)
    where
      by : (b : Bool) → p y ≡ b → is_none (find p xs) ≡ not (list_any p xs) → is_none (find p (y ∷ xs)) ≡ not (list_any p (y ∷ xs))
      by true e r = rw e refl
      by false e r = rw (e, r) refl

module _ {X : Type 0} where
  pub some_inj : {x y : X} → Some x ≡ Some y → x ≡ y
  some_inj h = cc

  pub slice_get_push : (xs : List X) (x : X) → slice_get (xs ++ x ∷ []) (length xs) ≡ Some x
  slice_get_push [] x = refl
  slice_get_push (y ∷ xs) x = slice_get_push xs x

  pub slice_get_left : (xs : List X) (x : X) (n : ℕ) → n < length xs → slice_get (xs ++ x ∷ []) n ≡ slice_get xs n
  slice_get_left xs x n lt = slice_get-get_or (xs ++ x ∷ []) n x (omega (arith, lt, length-append xs (x ∷ []))) ∙ ap (λ (y : X). Some y) (get_or_append_left xs (x ∷ []) x n lt) ∙ sym (slice_get-get_or xs n x lt)
