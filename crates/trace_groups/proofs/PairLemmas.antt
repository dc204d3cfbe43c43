-- Pairs of numbers, and how many elements of lists pass tests.
use Rattle.std.proofs.Common.{◌≡◌, ◌⊎◌, ℕ, zero, suc, ◌+◌, ◌<◌, ◌≤◌, ◌&&◌, ◌||◌, List, [], ◌∷◌, Bool, true, false, cond, not, eqb, ltb, length, get_or, All, ap, refl, sym, subst, ◌∙◌, arith, true≢false}
use Rattle.std.specs.Prelude.{count_by}
use Rattle.std.specs.List.{AllByRecursion, IsDistinct, list_any}
use Rattle.std.proofs.lemmas.Bool.{and_from, and_left, and_parts, and_right, eq-eqb, eqb-true, le-ltb, lt-ltb}
use Rattle.std.proofs.lemmas.List.Elements.{All-head, All-tail}
use Rattle.std.proofs.lemmas.List.Sums.{sum_by-cons}
use Rattle.std.proofs.lemmas.Map.Keys.{IsDistinct-head, IsDistinct-tail}
use Rattle.trace_groups.specs.inner.Counts.{is_row}
use Rattle.trace_groups.specs.inner.Names.{is_name}

pub same_bool : (a b : Bool) → (a ≡ true → b ≡ true) → (b ≡ true → a ≡ true) → a ≡ b
same_bool true b f g = sym (f refl)
same_bool false true f g = g refl
same_bool false false f g = refl

pub or_last : (a b : Bool) → cond a true b ≡ (b || a)
or_last true true = refl
or_last true false = refl
or_last false true = refl
or_last false false = refl

pair : {A B : Type 0} (a b : A × B) → a.0 ≡ b.0 → a.1 ≡ b.1 → a ≡ b
pair a b p q = λ i. (p i, q i)

-- equal pairs
pub name_true : (a b : ℕ × ℕ) → is_name a b ≡ true → a ≡ b
name_true a b h =
    let p = and_parts (eqb a.0 b.0) (eqb a.1 b.1) h in
    pair a b (eqb-true a.0 b.0 p.0) (eqb-true a.1 b.1 p.1)

pub name_same : (a b : ℕ × ℕ) → a ≡ b → is_name a b ≡ true
name_same a b e = and_from (eqb a.0 b.0) (eqb a.1 b.1) (eq-eqb a.0 b.0 (ap (λ (x : ℕ × ℕ). x.0) e)) (eq-eqb a.1 b.1 (ap (λ (x : ℕ × ℕ). x.1) e))

pub name_turn : (a b : ℕ × ℕ) → is_name a b ≡ is_name b a
name_turn a b = same_bool (is_name a b) (is_name b a) (λ e. name_same b a (sym (name_true a b e))) (λ e. name_same a b (sym (name_true b a e)))

pub row_true : (a b : (ℕ × ℕ) × (ℕ × ℕ)) → is_row a b ≡ true → a ≡ b
row_true a b h =
    let p = and_parts (is_name a.0 b.0) (is_name a.1 b.1) h in
    pair a b (name_true a.0 b.0 p.0) (name_true a.1 b.1 p.1)

pub row_same : (a b : (ℕ × ℕ) × (ℕ × ℕ)) → a ≡ b → is_row a b ≡ true
row_same a b e = and_from (is_name a.0 b.0) (is_name a.1 b.1) (name_same a.0 b.0 (ap (λ (x : (ℕ × ℕ) × (ℕ × ℕ)). x.0) e)) (name_same a.1 b.1 (ap (λ (x : (ℕ × ℕ) × (ℕ × ℕ)). x.1) e))

-- ---- how many pass

halves : (a b : Bool) → cond a 1 0 ≡ cond (a && b) 1 0 + cond (a && not b) 1 0
halves true true = omega arith
halves true false = omega arith
halves false true = omega arith
halves false false = omega arith

either : (a b c : Bool) → (b ≡ true → c ≡ false) → cond (a && (b || c)) 1 0 ≡ cond (a && b) 1 0 + cond (a && c) 1 0
either true true true h = absurd (true≢false (h refl))
either true true false h = omega arith
either true false true h = omega arith
either true false false h = omega arith
either false true true h = omega arith
either false true false h = omega arith
either false false true h = omega arith
either false false false h = omega arith

module _ {X : Type 0} where
  count-cons : (p : X → Bool) (x : X) (xs : List X) → count_by p (x ∷ xs) ≡ cond (p x) 1 0 + count_by p xs
  count-cons p x xs = sum_by-cons (λ y. cond (p y) 1 0) x xs

  pub count_same : (p q : X → Bool) (xs : List X) → All (λ x. p x ≡ q x) xs → count_by p xs ≡ count_by q xs
  count_same p q [] h = refl
  count_same p q (x ∷ xs) h =
      count-cons p x xs ∙ ap (λ (b : Bool). cond b 1 0 + count_by p xs) (All-head (λ y. p y ≡ q y) x xs h)
      ∙ ap (λ (n : ℕ). cond (q x) 1 0 + n) (count_same p q xs (All-tail (λ y. p y ≡ q y) x xs h)) ∙ sym (count-cons q x xs)

  pub count_alike : (p q : X → Bool) (xs : List X) → ((x : X) → p x ≡ q x) → count_by p xs ≡ count_by q xs
  count_alike p q xs h = ap (λ (f : X → Bool). count_by f xs) (λ i x. h x i)

  pub count_zero : (p : X → Bool) (xs : List X) → ((x : X) → p x ≡ false) → count_by p xs ≡ 0
  count_zero p [] h = refl
  count_zero p (x ∷ xs) h =
      let none : 0 + count_by p xs ≡ count_by p xs = omega arith in
      count-cons p x xs ∙ ap (λ (b : Bool). cond b 1 0 + count_by p xs) (h x) ∙ none ∙ count_zero p xs h

  count_split : (p m : X → Bool) (xs : List X) → count_by p xs ≡ count_by (λ x. p x && m x) xs + count_by (λ x. p x && not (m x)) xs
  count_split p m [] = omega arith
  count_split p m (x ∷ xs) =
      omega (arith, count-cons p x xs, count-cons (λ y. p y && m y) x xs, count-cons (λ y. p y && not (m y)) x xs, halves (p x) (m x), count_split p m xs)

  count_or : (p m n : X → Bool) (xs : List X) → ((x : X) → m x ≡ true → n x ≡ false) → count_by (λ x. p x && (m x || n x)) xs ≡ count_by (λ x. p x && m x) xs + count_by (λ x. p x && n x) xs
  count_or p m n [] h = omega arith
  count_or p m n (x ∷ xs) h =
      omega (arith, count-cons (λ y. p y && (m y || n y)) x xs, count-cons (λ y. p y && m y) x xs, count-cons (λ y. p y && n y) x xs, either (p x) (m x) (n x) (h x), count_or p m n xs h)

  pub count_some : (p : X → Bool) (xs : List X) → 0 < count_by p xs → list_any p xs ≡ true
  count_some p [] h = absurd (omega (arith, h))
  count_some p (x ∷ xs) h = by (count_some p xs) (p x) refl
    where
      by : (0 < count_by p xs → list_any p xs ≡ true) → (b : Bool) → p x ≡ b → list_any p (x ∷ xs) ≡ true
      by later true e = ap (λ c. c || list_any p xs) e
      by later false e =
          let rest : count_by p (x ∷ xs) ≡ 0 + count_by p xs = count-cons p x xs ∙ ap (λ (c : Bool). cond c 1 0 + count_by p xs) e in
          ap (λ c. c || list_any p xs) e ∙ later (omega (arith, h, rest))

  pub count_of_some : (p : X → Bool) (xs : List X) → list_any p xs ≡ true → 0 < count_by p xs
  count_of_some p [] h = absurd (true≢false (sym h))
  count_of_some p (x ∷ xs) h = by (count_of_some p xs) (p x) refl
    where
      by : (list_any p xs ≡ true → 0 < count_by p xs) → (b : Bool) → p x ≡ b → 0 < count_by p (x ∷ xs)
      by later true e =
          let one : count_by p (x ∷ xs) ≡ 1 + count_by p xs = count-cons p x xs ∙ ap (λ (c : Bool). cond c 1 0 + count_by p xs) e in
          omega (arith, one)
      by later false e =
          let rest : count_by p (x ∷ xs) ≡ 0 + count_by p xs = count-cons p x xs ∙ ap (λ (c : Bool). cond c 1 0 + count_by p xs) e in
          omega (arith, rest, later (sym (ap (λ c. c || list_any p xs) e) ∙ h))

  none_equal : (like : X → X → Bool) (x : X) (xs : List X) → AllByRecursion (λ y. like x y ≡ false) xs → (count_by (like x) xs ≡ 0) × (list_any (like x) xs ≡ false)
  none_equal like x [] h = (refl, refl)
  none_equal like x (y ∷ ys) h =
      let rest = none_equal like x ys h.1 in
      let zero_more : 0 + count_by (like x) ys ≡ 0 = omega (arith, rest.0) in
      (count-cons (like x) y ys ∙ ap (λ (c : Bool). cond c 1 0 + count_by (like x) ys) h.0 ∙ zero_more, ap (λ c. c || list_any (like x) ys) h.0 ∙ rest.1)

  -- an element of a list without repeats stands in it once
  count_one : (like : X → X → Bool) → ((a b : X) → like a b ≡ true → a ≡ b) → (x : X) (xs : List X) → IsDistinct like xs → list_any (like x) xs ≡ true → count_by (like x) xs ≡ 1
  count_one like same x [] d h = absurd (true≢false (sym h))
  count_one like same x (y ∷ ys) d h = by (count_one like same x ys (IsDistinct-tail like y ys d)) (like x y) refl
    where
      by : (list_any (like x) ys ≡ true → count_by (like x) ys ≡ 1) → (b : Bool) → like x y ≡ b → count_by (like x) (y ∷ ys) ≡ 1
      by later true e =
          let none : count_by (like x) ys ≡ 0 = subst (λ z. count_by (like z) ys ≡ 0) (sym (same x y e)) (none_equal like y ys (IsDistinct-head like y ys d)).0 in
          let last : 1 + count_by (like x) ys ≡ 1 = omega (arith, none) in
          count-cons (like x) y ys ∙ ap (λ (c : Bool). cond c 1 0 + count_by (like x) ys) e ∙ last
      by later false e =
          let rest = later (sym (ap (λ c. c || list_any (like x) ys) e) ∙ h) in
          let last : 0 + count_by (like x) ys ≡ 1 = omega (arith, rest) in
          count-cons (like x) y ys ∙ ap (λ (c : Bool). cond c 1 0 + count_by (like x) ys) e ∙ last

-- ---- rows that begin with a name, and the second names that they have

module _ (U : (ℕ × ℕ) × (ℕ × ℕ) → Bool) (b : ℕ × ℕ) (rows : List ((ℕ × ℕ) × (ℕ × ℕ))) (distinct : IsDistinct is_row rows) where
  abbrev pub begun : (ℕ × ℕ) × (ℕ × ℕ) → Bool
  begun e = is_name b e.0 && U e

  one_row : (k : ℕ × ℕ) → (U (b, k) ≡ true → list_any (is_row (b, k)) rows ≡ true) → count_by (λ e. begun e && is_name e.1 k) rows ≡ cond (U (b, k)) 1 0
  one_row k there = by (U (b, k)) refl
    where
      by : (c : Bool) → U (b, k) ≡ c → count_by (λ e. begun e && is_name e.1 k) rows ≡ cond (U (b, k)) 1 0
      by true e =
          count_alike (λ x. begun x && is_name x.1 k) (is_row (b, k)) rows (λ x. same_bool (begun x && is_name x.1 k) (is_row (b, k) x)
          (λ h. let p = and_parts (begun x) (is_name x.1 k) h in and_from (is_name b x.0) (is_name k x.1) (and_parts (is_name b x.0) (U x) p.0).0 (name_turn k x.1 ∙ p.1))
          (λ h. let same = row_true (b, k) x h in let p = and_parts (is_name b x.0) (is_name k x.1) h in and_from (begun x) (is_name x.1 k) (and_from (is_name b x.0) (U x) p.0 (sym (ap U same) ∙ e)) (name_turn x.1 k ∙ p.1)))
          ∙ count_one is_row row_true (b, k) rows distinct (there e) ∙ sym (ap (λ (c : Bool). cond c 1 0) e)
      by false e =
          count_zero (λ x. begun x && is_name x.1 k) rows (λ x. none x (is_name b x.0) (is_name x.1 k) refl refl)
          ∙ sym (ap (λ (c : Bool). cond c 1 0) e)
        where
          none : (x : (ℕ × ℕ) × (ℕ × ℕ)) (c d : Bool) → is_name b x.0 ≡ c → is_name x.1 k ≡ d → (begun x && is_name x.1 k) ≡ false
          none x true true f g =
              let same : (b, k) ≡ x = row_true (b, k) x (and_from (is_name b x.0) (is_name k x.1) f (name_turn k x.1 ∙ g)) in
              and_left (begun x) (is_name x.1 k) (and_right (is_name b x.0) (U x) (sym (ap U same) ∙ e))
          none x true false f g = and_right (begun x) (is_name x.1 k) g
          none x false d f g = and_left (begun x) (is_name x.1 k) (and_left (is_name b x.0) (U x) f)

  chosen : (names : List (ℕ × ℕ)) → IsDistinct is_name names → ((k : ℕ × ℕ) → U (b, k) ≡ true → list_any (is_row (b, k)) rows ≡ true) → count_by (λ e. begun e && list_any (is_name e.1) names) rows ≡ count_by (λ k. U (b, k)) names
  chosen [] d there = count_zero (λ e. begun e && false) rows (λ e. and_right (begun e) false refl)
  chosen (k ∷ ks) d there =
      count_or begun (λ e. is_name e.1 k) (λ e. list_any (is_name e.1) ks) rows (λ e h. subst (λ z. list_any (is_name z) ks ≡ false) (sym (name_true e.1 k h)) (none_equal is_name k ks (IsDistinct-head is_name k ks d)).1)
      ∙ ap (λ (n : ℕ). n + count_by (λ e. begun e && list_any (is_name e.1) ks) rows) (one_row k (there k))
      ∙ ap (λ (n : ℕ). cond (U (b, k)) 1 0 + n) (chosen ks (IsDistinct-tail is_name k ks d) there)
      ∙ sym (count-cons (λ z. U (b, z)) k ks)

  -- fewer names pass than there are rows exactly where some row's name is not among them
  pub fewer : (names : List (ℕ × ℕ)) → IsDistinct is_name names → ((k : ℕ × ℕ) → U (b, k) ≡ true → list_any (is_row (b, k)) rows ≡ true) → ltb (count_by (λ k. U (b, k)) names) (count_by begun rows) ≡ list_any (λ e. begun e && not (list_any (is_name e.1) names)) rows
  fewer names d there = by (list_any (λ e. begun e && not (list_any (is_name e.1) names)) rows) refl
    where
      parts : count_by begun rows ≡ count_by (λ e. begun e && list_any (is_name e.1) names) rows + count_by (λ e. begun e && not (list_any (is_name e.1) names)) rows
      parts = count_split begun (λ e. list_any (is_name e.1) names) rows

      by : (c : Bool) → list_any (λ e. begun e && not (list_any (is_name e.1) names)) rows ≡ c → ltb (count_by (λ k. U (b, k)) names) (count_by begun rows) ≡ list_any (λ e. begun e && not (list_any (is_name e.1) names)) rows
      by true e =
          lt-ltb (count_by (λ k. U (b, k)) names) (count_by begun rows) (omega (arith, parts, chosen names d there, count_of_some (λ e. begun e && not (list_any (is_name e.1) names)) rows e)) ∙ sym e
      by false e =
          le-ltb (count_by (λ k. U (b, k)) names) (count_by begun rows) (omega (arith, parts, chosen names d there, zero_from (count_by (λ e. begun e && not (list_any (is_name e.1) names)) rows) (λ more. true≢false (sym (count_some (λ e. begun e && not (list_any (is_name e.1) names)) rows more) ∙ e)))) ∙ sym e
        where
          zero_from : (n : ℕ) → (0 < n → ⊥) → n ≡ 0
          zero_from zero h = refl
          zero_from (suc n) h = absurd (h (omega arith))
