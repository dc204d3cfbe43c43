-- Which of its group each part is.
use Rattle.std.proofs.Common.{◌≡◌, ℕ, zero, suc, ◌+◌, ◌-◌, ◌<◌, ◌≤◌, List, [], ◌∷◌, ◌++◌, Bool, true, false, cond, ◌||◌, Option, Some, None, length, get_or, nat_eq, drop, replicate, reverse, take, refl, sym, ap, ◌∙◌, append-nil, append_assoc, arith}
use Rattle.std.specs.Prelude.{is_some}
use Rattle.std.specs.List.{count_by, list_any}
use Rattle.std.specs.Option.{option_eq}
use Rattle.std.proofs.lemmas.Bool.{eq-eqb, false≢true, ne_eqb}
use Rattle.std.proofs.lemmas.List.{drop_all, drop_more, get_or-reverse, get_or_default, length-drop, length-reverse, reverse-append, take-append-drop, take_at, take_more}
use Rattle.std.proofs.lemmas.List.Sums.{sum_by-cons, sum_by_push}
use Rattle.call_trees.specs.Ordinals.{ordinals_after, ordinals_of}
use Rattle.thread_steps.specs.inner.Gaps.{gap_of, gaps_over}

module _ {X : Type 0} (p : X → Bool) where
  pub count-cons : (x : X) (xs : List X) → count_by p (x ∷ xs) ≡ cond (p x) 1 0 + count_by p xs
  count-cons x xs = sum_by-cons (λ x. cond (p x) 1 0) x xs

  count-reverse : (xs : List X) → count_by p (reverse xs) ≡ count_by p xs
  count-reverse [] = refl
  count-reverse (x ∷ xs) =
      ap (count_by p) (reverse-append (x ∷ []) xs) ∙ sum_by_push (λ x. cond (p x) 1 0) (reverse xs) x
      ∙ ap (λ n. n + cond (p x) 1 0) (count-reverse xs) ∙ (let e : count_by p xs + cond (p x) 1 0 ≡ cond (p x) 1 0 + count_by p xs = omega arith in e) ∙ sym (count-cons x xs)

  any_none : (xs : List X) → list_any p xs ≡ false → count_by p xs ≡ 0
  any_none [] h = refl
  any_none (x ∷ xs) h = count-cons x xs ∙ by (p x) (any_none xs) h
    where
      by : (b : Bool) → (list_any p xs ≡ false → count_by p xs ≡ 0) → (b || list_any p xs) ≡ false → cond b 1 0 + count_by p xs ≡ 0
      by true rest h = absurd (false≢true (sym h))
      by false rest h = omega (arith, rest h)

  any_some : (xs : List X) → list_any p xs ≡ true → 0 < count_by p xs
  any_some [] h = absurd (false≢true h)
  any_some (x ∷ xs) h = omega (arith, count-cons x xs, by (p x) (any_some xs) h)
    where
      by : (b : Bool) → (list_any p xs ≡ true → 0 < count_by p xs) → (b || list_any p xs) ≡ true → 0 < cond b 1 0 + count_by p xs
      by true rest h = omega arith
      by false rest h = omega (arith, rest h)

  -- the gap by what is left
  pub gap_any : (xs : List X) (g n : ℕ) → gap_of (Some g) n (count_by p xs + 1) ≡ cond (list_any p xs) (Some n) None
  gap_any xs g n = by (list_any p xs) refl
    where
      by : (b : Bool) → list_any p xs ≡ b → gap_of (Some g) n (count_by p xs + 1) ≡ cond b (Some n) None
      by true h = ap (λ b. cond b None (Some n)) (ne_eqb (count_by p xs + 1) 1 (λ e. let none : ⊥ = omega (arith, any_some xs h, e) in none))
      by false h = ap (λ b. cond b None (Some n)) (eq-eqb (count_by p xs + 1) 1 (let e : count_by p xs + 1 ≡ 1 = omega (arith, any_none xs h) in e))

module _ {K : Type 0} (like : K → K → Bool) where
  pub length-ordinals : (before xs : List K) → length (ordinals_after like before xs) ≡ length xs
  length-ordinals before [] = refl
  length-ordinals before (x ∷ xs) = ap suc (length-ordinals (before ++ x ∷ []) xs)

  ordinal_at : (before xs : List K) (i : ℕ) (d : K) → i < length xs → get_or (ordinals_after like before xs) i 0 ≡ count_by (like (get_or xs i d)) (before ++ take i xs) + 1
  ordinal_at before [] i d lt = absurd (let e : ⊥ = omega (arith, lt) in e)
  ordinal_at before (x ∷ xs) zero d lt = ap (λ (ys : List K). count_by (like x) ys + 1) (sym (append-nil before))
  ordinal_at before (x ∷ xs) (suc i) d lt =
      ordinal_at (before ++ x ∷ []) xs i d (omega (arith, lt))
      ∙ ap (λ (ys : List K). count_by (like (get_or xs i d)) ys + 1) (append_assoc before (x ∷ []) (take i xs))

  pub first_at : (xs : List K) (i : ℕ) (d : K) → i < length xs → get_or (ordinals_of like xs) i 0 ≡ count_by (like (get_or xs i d)) (take i xs) + 1
  first_at xs i d lt = ordinal_at [] xs i d lt

  rest_reversed : (xs : List K) (i : ℕ) → i < length xs → take (length xs - 1 - i) (reverse xs) ≡ reverse (drop (i + 1) xs)
  rest_reversed xs i lt =
      ap (λ (ys : List K). take (length xs - 1 - i) (reverse ys)) (sym (take-append-drop (i + 1) xs))
      ∙ ap (λ (ys : List K). take (length xs - 1 - i) ys) (reverse-append (take (i + 1) xs) (drop (i + 1) xs))
      ∙ take_at (reverse (drop (i + 1) xs)) (reverse (take (i + 1) xs)) (length xs - 1 - i) (length-reverse (drop (i + 1) xs) ∙ length-drop (i + 1) xs ∙ (let e : length xs - (i + 1) ≡ length xs - 1 - i = omega arith in e))

  -- which of its like an element is from the end
  pub left_at : (xs : List K) (i : ℕ) (d : K) → i < length xs → get_or (ordinals_of like (reverse xs)) (length xs - 1 - i) 0 ≡ count_by (like (get_or xs i d)) (drop (i + 1) xs) + 1
  left_at xs i d lt =
      ordinal_at [] (reverse xs) (length xs - 1 - i) d (omega (arith, lt, length-reverse xs))
      ∙ ap (λ (k : K). count_by (like k) (take (length xs - 1 - i) (reverse xs)) + 1) same
      ∙ ap (λ (ys : List K). count_by (like (get_or xs i d)) ys + 1) (rest_reversed xs i lt)
      ∙ ap (λ n. n + 1) (count-reverse (like (get_or xs i d)) (drop (i + 1) xs))
    where
      same : get_or (reverse xs) (length xs - 1 - i) d ≡ get_or xs i d
      same = get_or-reverse xs (length xs - 1 - i) d (omega (arith, lt)) ∙ ap (λ n. get_or xs n d) (let e : length xs - 1 - (length xs - 1 - i) ≡ i = omega (arith, lt) in e)

pub length-gaps : (before groups : List (Option ℕ)) → length (gaps_over before groups) ≡ length groups
length-gaps before [] = refl
length-gaps before (g ∷ later) = ap suc (length-gaps (before ++ g ∷ []) later)

module _ (groups gaps : List (Option ℕ)) (at : ℕ) where
  pub gaps_more : (new : List (Option ℕ)) (group : Option ℕ) (ordinal left : ℕ) (v : Option ℕ) → at < length groups → group ≡ get_or groups at None → ordinal ≡ get_or (ordinals_of (option_eq nat_eq) groups) at 0 → left ≡ get_or (ordinals_of (option_eq nat_eq) (reverse groups)) (length groups - 1 - at) 0 → v ≡ gap_of group ordinal left → new ≡ gaps ++ v ∷ [] → gaps ++ gaps_over (take at groups) (drop at groups) ≡ gaps_over [] groups → new ++ gaps_over (take (at + 1) groups) (drop (at + 1) groups) ≡ gaps_over [] groups
  gaps_more new group ordinal left v lt here first last is step h =
      ap (λ (vs : List (Option ℕ)). vs ++ gaps_over (take (at + 1) groups) (drop (at + 1) groups)) step
      ∙ append_assoc gaps (v ∷ []) (gaps_over (take (at + 1) groups) (drop (at + 1) groups))
      ∙ ap (λ (vs : List (Option ℕ)). gaps ++ v ∷ gaps_over vs (drop (at + 1) groups)) (take_more groups at None lt)
      ∙ ap (λ (w : Option ℕ). gaps ++ w ∷ gaps_over (take at groups ++ get_or groups at None ∷ []) (drop (at + 1) groups)) value
      ∙ ap (λ (vs : List (Option ℕ)). gaps ++ gaps_over (take at groups) vs) (sym (drop_more groups at None lt))
      ∙ h
    where
      value : v ≡ gap_of (get_or groups at None) (count_by (option_eq nat_eq (get_or groups at None)) (take at groups) + 1) (count_by (option_eq nat_eq (get_or groups at None)) (drop (at + 1) groups) + 1)
      value =
          is ∙ ap (λ (g : Option ℕ). gap_of g ordinal left) here ∙ ap (λ n. gap_of (get_or groups at None) n left) (first ∙ first_at (option_eq nat_eq) groups at None lt)
          ∙ ap (gap_of (get_or groups at None) (count_by (option_eq nat_eq (get_or groups at None)) (take at groups) + 1)) (last ∙ left_at (option_eq nat_eq) groups at None lt)

  pub gaps_all : length groups ≤ at → gaps ++ gaps_over (take at groups) (drop at groups) ≡ gaps_over [] groups → gaps ≡ gaps_over [] groups
  gaps_all le h = sym (ap (λ (vs : List (Option ℕ)). gaps ++ gaps_over (take at groups) vs) (drop_all at groups le) ∙ append-nil gaps) ∙ h

pub read_same : (items xs : List ℕ) (i v : ℕ) → v ≡ get_or items i v → items ≡ xs → i < length xs → v ≡ get_or xs i 0
read_same items xs i v is same lt = is ∙ ap (λ (ys : List ℕ). get_or ys i v) same ∙ get_or_default xs i v 0 lt

-- no gaps where there are no groups
pub none_over : (before groups gaps : List (Option ℕ)) → list_any is_some groups ≡ false → gaps ≡ replicate (length groups) None → gaps ≡ gaps_over before groups
none_over before [] gaps h is = is
none_over before (None ∷ groups) gaps h is = is ∙ ap (λ (gs : List (Option ℕ)). None ∷ gs) (none_over (before ++ None ∷ []) groups (replicate (length groups) None) h refl)
none_over before (Some g ∷ groups) gaps h is = absurd (false≢true (sym h))
