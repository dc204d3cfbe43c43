-- Filters, and lists of numbers without repetition.
use Rattle.std.proofs.Common.{◌≡◌, ◌≢◌, ℕ, ◌+◌, ◌≤◌, inl, inr, Bool, true, false, not, ◌&&◌, ◌||◌, ◌==◌, cond, if◌then◌else◌, List, [], ◌∷◌, length, filter, All, refl, sym, ap, ◌∙◌, arith}
use Rattle.std.proofs.lemmas.Bool.{cases_eq, cases_Bool, eq-eqb, ne_eqb, cond-true, cond-false, and_parts, and_from, or_right, and_left, and_right, not-true, not_from_true, not_from_false, false≢true}
use Rattle.std.proofs.lemmas.List.Elements.{All-head, All-tail}
use Rattle.std.specs.List.{list_any}
use Rattle.day_partitions.specs.Kept.{distinct_numbers}

module _ {X : Type 0} where
  pub filter_yes : (p : X → Bool) (x : X) (xs : List X) → p x ≡ true → filter p (x ∷ xs) ≡ x ∷ filter p xs
  filter_yes p x xs e = cond-true (p x) _ _ e

  pub filter_no : (p : X → Bool) (x : X) (xs : List X) → p x ≡ false → filter p (x ∷ xs) ≡ filter p xs
  filter_no p x xs e = cond-false (p x) _ _ e

  pub filter_both : (p q : X → Bool) (xs : List X) → filter (λ x. p x && q x) xs ≡ filter q (filter p xs)
  filter_both p q [] = refl
  filter_both p q (x ∷ xs) = elim (cases_Bool (p x)) [
    | inl yes_p ↦ elim (cases_Bool (q x)) [
      | inl yes_q ↦ filter_yes (λ y. p y && q y) x xs (and_from (p x) (q x) yes_p yes_q) ∙ ap (λ l. x ∷ l) (filter_both p q xs) ∙ sym (ap (filter q) (filter_yes p x xs yes_p) ∙ filter_yes q x (filter p xs) yes_q)
      | inr no_q ↦ filter_no (λ y. p y && q y) x xs (and_right (p x) (q x) no_q) ∙ filter_both p q xs ∙ sym (ap (filter q) (filter_yes p x xs yes_p) ∙ filter_no q x (filter p xs) no_q)
    ]
    | inr no_p ↦ filter_no (λ y. p y && q y) x xs (and_left (p x) (q x) no_p) ∙ filter_both p q xs ∙ sym (ap (filter q) (filter_no p x xs no_p))
  ]

  pub filter_same : (p q : X → Bool) (xs : List X) → All (λ x. p x ≡ q x) xs → filter p xs ≡ filter q xs
  filter_same p q [] h = refl
  filter_same p q (x ∷ xs) h =
      ap (λ b. cond b (x ∷ filter p xs) (filter p xs)) (All-head (λ y. p y ≡ q y) x xs h) ∙ ap (λ l. cond (q x) (x ∷ l) l) (filter_same p q xs (All-tail (λ y. p y ≡ q y) x xs h))

  pub filter_all : (p : X → Bool) (xs : List X) → All (λ x. p x ≡ true) xs → filter p xs ≡ xs
  filter_all p [] h = refl
  filter_all p (x ∷ xs) h = filter_yes p x xs (All-head (λ y. p y ≡ true) x xs h) ∙ ap (λ l. x ∷ l) (filter_all p xs (All-tail (λ y. p y ≡ true) x xs h))

  pub filter_none : (p : X → Bool) (xs : List X) → All (λ x. p x ≡ false) xs → filter p xs ≡ []
  filter_none p [] h = refl
  filter_none p (x ∷ xs) h = filter_no p x xs (All-head (λ y. p y ≡ false) x xs h) ∙ filter_none p xs (All-tail (λ y. p y ≡ false) x xs h)

  pub nil_either : (b : Bool) → let none : List X = [] in (if b then none else none) ≡ none
  nil_either true = refl
  nil_either false = refl

  -- those of one key among those whose keys pass
  pub filter_key : (key : X → ℕ) (f : ℕ → Bool) (k : ℕ) (xs : List X) → filter (λ x. key x == k) (filter (λ x. f (key x)) xs) ≡ (if f k then filter (λ x. key x == k) xs else [])
  filter_key key f k [] = sym (nil_either (f k))
  filter_key key f k (x ∷ xs) =
      let rest = filter_key key f k xs in
      let is : X → Bool = λ y. key y == k in let ok : X → Bool = λ y. f (key y) in
      elim (cases_eq (key x) k) [
        | inl same ↦ elim (cases_Bool (f k)) [
          | inl good ↦ ap (filter is) (filter_yes ok x xs (ap f same ∙ good)) ∙ filter_yes is x (filter ok xs) (eq-eqb (key x) k same) ∙ ap (λ l. x ∷ l) (rest ∙ cond-true (f k) _ _ good) ∙ sym (filter_yes is x xs (eq-eqb (key x) k same)) ∙ sym (cond-true (f k) _ _ good)
          | inr bad ↦ ap (filter is) (filter_no ok x xs (ap f same ∙ bad)) ∙ rest ∙ cond-false (f k) _ _ bad ∙ sym (cond-false (f k) _ _ bad)
        ]
        | inr other ↦ elim (cases_Bool (f (key x))) [
          | inl good ↦ ap (filter is) (filter_yes ok x xs good) ∙ filter_no is x (filter ok xs) (ne_eqb (key x) k other) ∙ rest ∙ ap (λ l. if f k then l else []) (sym (filter_no is x xs (ne_eqb (key x) k other)))
          | inr bad ↦ ap (filter is) (filter_no ok x xs bad) ∙ rest ∙ ap (λ l. if f k then l else []) (sym (filter_no is x xs (ne_eqb (key x) k other)))
        ]
      ]

-- ---- numbers, each once
abbrev pub is_in : ℕ → List ℕ → Bool
is_in n ns = list_any (λ m. m == n) ns

abbrev pub are_distinct : List ℕ → Bool
are_distinct [] = true
are_distinct (n ∷ ns) = not (is_in n ns) && are_distinct ns

in_next : (n m : ℕ) (ns : List ℕ) → m ≢ n → is_in n (m ∷ ns) ≡ is_in n ns
in_next n m ns other = ap (λ b. b || is_in n ns) (ne_eqb m n other)

in_here : (n m : ℕ) (ns : List ℕ) → m ≡ n → is_in n (m ∷ ns) ≡ true
in_here n m ns e = ap (λ b. b || is_in n ns) (eq-eqb m n e)

pub in_different : (n : ℕ) (ns : List ℕ) → is_in n (distinct_numbers ns) ≡ is_in n ns
in_different n [] = refl
in_different n (m ∷ ns) = elim (cases_Bool (is_in m ns)) [
  | inl again ↦ ap (is_in n) (cond-true (is_in m ns) _ _ again) ∙ in_different n ns ∙ elim (cases_eq m n) [
    | inl same ↦ ap (λ k. is_in k ns) (sym same) ∙ again ∙ sym (in_here n m ns same)
    | inr other ↦ sym (in_next n m ns other)
  ]
  | inr once ↦ ap (is_in n) (cond-false (is_in m ns) _ _ once) ∙ ap (λ b. (m == n) || b) (in_different n ns)
]

pub different_distinct : (ns : List ℕ) → are_distinct (distinct_numbers ns) ≡ true
different_distinct [] = refl
different_distinct (m ∷ ns) = elim (cases_Bool (is_in m ns)) [
  | inl again ↦ ap are_distinct (cond-true (is_in m ns) _ _ again) ∙ different_distinct ns
  | inr once ↦ ap are_distinct (cond-false (is_in m ns) _ _ once) ∙ and_from (not (is_in m (distinct_numbers ns))) (are_distinct (distinct_numbers ns)) (not_from_false _ (in_different m ns ∙ once)) (different_distinct ns)
]

abbrev others : ℕ → List ℕ → List ℕ
others n ns = filter (λ m. not (m == n)) ns

others_fewer : (n : ℕ) (ns : List ℕ) → length (others n ns) ≤ length ns
others_fewer n [] = omega arith
others_fewer n (m ∷ ns) = elim (cases_eq m n) [
  | inl same ↦ let e = ap length (filter_no (λ k. not (k == n)) m ns (not_from_true (m == n) (eq-eqb m n same))) in let h = others_fewer n ns in omega arith
  | inr other ↦ let e = ap length (filter_yes (λ k. not (k == n)) m ns (not_from_false (m == n) (ne_eqb m n other))) in let h = others_fewer n ns in omega arith
]

others_less : (n : ℕ) (ns : List ℕ) → is_in n ns ≡ true → length (others n ns) + 1 ≤ length ns
others_less n [] h = absurd (false≢true h)
others_less n (m ∷ ns) h = elim (cases_eq m n) [
  | inl same ↦ let e = ap length (filter_no (λ k. not (k == n)) m ns (not_from_true (m == n) (eq-eqb m n same))) in let r = others_fewer n ns in omega arith
  | inr other ↦ let e = ap length (filter_yes (λ k. not (k == n)) m ns (not_from_false (m == n) (ne_eqb m n other))) in let r = others_less n ns (sym (in_next n m ns other) ∙ h) in omega arith
]

others_have : (n k : ℕ) (ns : List ℕ) → k ≢ n → is_in k ns ≡ true → is_in k (others n ns) ≡ true
others_have n k [] other h = h
others_have n k (m ∷ ns) other h = elim (cases_eq m n) [
  | inl same ↦ ap (is_in k) (filter_no (λ j. not (j == n)) m ns (not_from_true (m == n) (eq-eqb m n same))) ∙ others_have n k ns other (sym (in_next k m ns (λ e. other (sym e ∙ same))) ∙ h)
  | inr differs ↦ ap (is_in k) (filter_yes (λ j. not (j == n)) m ns (not_from_false (m == n) (ne_eqb m n differs))) ∙ elim (cases_eq m k) [
    | inl here ↦ in_here k m (others n ns) here
    | inr there ↦ in_next k m (others n ns) there ∙ others_have n k ns other (sym (in_next k m ns there) ∙ h)
  ]
]

-- distinct numbers that are all among others are no more than those
fewer : (ns ms : List ℕ) → are_distinct ns ≡ true → ((k : ℕ) → is_in k ns ≡ true → is_in k ms ≡ true) → length ns ≤ length ms
fewer [] ms d h = omega arith
fewer (n ∷ ns) ms d h =
    let p = and_parts (not (is_in n ns)) (are_distinct ns) d in
    let new : is_in n ns ≡ false = not-true (is_in n ns) p.0 in
    let less = others_less n ms (h n (in_here n n ns refl)) in
    let rest = fewer ns (others n ms) p.1 (λ k e. others_have n k ms (λ same. false≢true (sym new ∙ ap (λ i. is_in i ns) (sym same) ∙ e)) (h k (or_right (n == k) (is_in k ns) e))) in
    omega arith

pub same_size : (ns ms : List ℕ) → are_distinct ns ≡ true → are_distinct ms ≡ true → ((k : ℕ) → is_in k ns ≡ is_in k ms) → length ns ≡ length ms
same_size ns ms dn dm h =
    let a = fewer ns ms dn (λ k e. sym (h k) ∙ e) in
    let b = fewer ms ns dm (λ k e. h k ∙ e) in
    omega arith
