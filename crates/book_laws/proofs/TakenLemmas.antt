-- Lists by a rising key, and items that are put in after all of their key and of lower keys.
use Rattle.std.proofs.Common.{◌≡◌, ◌≢◌, ℕ, ◌<◌, ◌≤◌, inl, inr, Bool, false, ◌==◌, nat_le, if◌then◌else◌, List, [], ◌∷◌, ◌++◌, length, filter, All, refl, sym, ap, ◌∙◌, append_assoc, arith}
use Rattle.std.proofs.lemmas.Bool.{cases_eq, cases_lt, cases_order, eq-eqb, ne_eqb, le-leb, lt-leb, cond-true, cond-false}
use Rattle.std.proofs.lemmas.List.{append-nil}
use Rattle.std.proofs.lemmas.List.Elements.{All-nil, All-cons, All-head, All-tail, All-weaker, All-append}
use Rattle.std.specs.List.{AllZip}
use Rattle.day_partitions.proofs.FilterLemmas.{filter_yes, filter_no, filter_none}

module _ {X : Type 0} (key : X → ℕ) where
  -- the item stands after all of its key and of lower keys
  abbrev pub put_in : List X → X → List X
  put_in [] t = t ∷ []
  put_in (x ∷ xs) t = if nat_le (key x) (key t) then x ∷ put_in xs t else t ∷ x ∷ xs

  abbrev pub put_all : List X → List X → List X
  put_all xs [] = xs
  put_all xs (t ∷ ts) = put_all (put_in xs t) ts

  abbrev pub has_key : ℕ → X → Bool
  has_key k x = key x == k

  -- the keys never fall
  abbrev pub Rises : List X → Type 0
  Rises [] = Unit {0}
  Rises (x ∷ xs) = All (λ y. key x ≤ key y) xs × Rises xs

  put_later : (x : X) (xs : List X) (t : X) → key x ≤ key t → put_in (x ∷ xs) t ≡ x ∷ put_in xs t
  put_later x xs t l = cond-true (nat_le (key x) (key t)) _ _ (le-leb (key x) (key t) l)

  put_here : (x : X) (xs : List X) (t : X) → key t < key x → put_in (x ∷ xs) t ≡ t ∷ x ∷ xs
  put_here x xs t l = cond-false (nat_le (key x) (key t)) _ _ (lt-leb (key x) (key t) l)

  put_above : (k : ℕ) (xs : List X) (t : X) → k ≤ key t → All (λ y. k ≤ key y) xs → All (λ y. k ≤ key y) (put_in xs t)
  put_above k [] t l h = All-cons (λ y. k ≤ key y) t [] l (All-nil (λ y. k ≤ key y))
  put_above k (x ∷ xs) t l h =
      let rest = put_above k xs t l (All-tail (λ y. k ≤ key y) x xs h) in
      elim (cases_lt (key t) (key x)) [
        | inl low ↦ rw (put_here x xs t low) (All-cons (λ y. k ≤ key y) t (x ∷ xs) l h)
        | inr high ↦ rw (put_later x xs t high) (All-cons (λ y. k ≤ key y) x (put_in xs t) (All-head (λ y. k ≤ key y) x xs h) rest)
      ]

  put_rises : (xs : List X) (t : X) → Rises xs → Rises (put_in xs t)
  put_rises [] t h = (All-nil (λ y. key t ≤ key y), h)
  put_rises (x ∷ xs) t h =
      let rest = put_rises xs t h.1 in
      elim (cases_lt (key t) (key x)) [
        | inl low ↦ rw (put_here x xs t low) (All-cons (λ y. key t ≤ key y) x xs (omega (arith, low)) (All-weaker (λ y. key x ≤ key y) (λ y. key t ≤ key y) (λ y l. omega (arith, low, l)) xs h.0), h)
        | inr high ↦ rw (put_later x xs t high) (put_above (key x) xs t high h.0, rest)
      ]

  pub put_all_rises : (xs ts : List X) → Rises xs → Rises (put_all xs ts)
  put_all_rises xs [] h = h
  put_all_rises xs (t ∷ ts) h = put_all_rises (put_in xs t) ts (put_rises xs t h)

  filter_put_other : (k : ℕ) (xs : List X) (t : X) → key t ≢ k → filter (has_key k) (put_in xs t) ≡ filter (has_key k) xs
  filter_put_other k [] t other = filter_no (has_key k) t [] (ne_eqb (key t) k other)
  filter_put_other k (x ∷ xs) t other =
      let rest = filter_put_other k xs t other in
      elim (cases_lt (key t) (key x)) [
        | inl low ↦ ap (filter (has_key k)) (put_here x xs t low) ∙ filter_no (has_key k) t (x ∷ xs) (ne_eqb (key t) k other)
        | inr high ↦ ap (filter (has_key k)) (put_later x xs t high) ∙ elim (cases_eq (key x) k) [
          | inl is ↦ filter_yes (has_key k) x (put_in xs t) (eq-eqb (key x) k is) ∙ ap (λ l. x ∷ l) rest ∙ sym (filter_yes (has_key k) x xs (eq-eqb (key x) k is))
          | inr not ↦ filter_no (has_key k) x (put_in xs t) (ne_eqb (key x) k not) ∙ rest ∙ sym (filter_no (has_key k) x xs (ne_eqb (key x) k not))
        ]
      ]

  pub filter_above : (k : ℕ) (xs : List X) → All (λ y. k < key y) xs → filter (has_key k) xs ≡ []
  filter_above k xs h = filter_none (has_key k) xs (All-weaker (λ y. k < key y) (λ y. has_key k y ≡ false) (λ y l. ne_eqb (key y) k (λ e. omega (arith, l, e))) xs h)

  filter_put_same : (k : ℕ) (xs : List X) (t : X) → key t ≡ k → Rises xs → filter (has_key k) (put_in xs t) ≡ filter (has_key k) xs ++ t ∷ []
  filter_put_same k [] t is h = filter_yes (has_key k) t [] (eq-eqb (key t) k is)
  filter_put_same k (x ∷ xs) t is h =
      let rest = filter_put_same k xs t is h.1 in
      elim (cases_lt (key t) (key x)) [
        | inl low ↦
            let none : filter (has_key k) (x ∷ xs) ≡ [] = filter_above k (x ∷ xs) (All-cons (λ y. k < key y) x xs (omega (arith, low, is)) (All-weaker (λ y. key x ≤ key y) (λ y. k < key y) (λ y l. omega (arith, low, is, l)) xs h.0)) in
            ap (filter (has_key k)) (put_here x xs t low) ∙ filter_yes (has_key k) t (x ∷ xs) (eq-eqb (key t) k is) ∙ ap (λ l. t ∷ l) none ∙ sym (ap (λ l. l ++ t ∷ []) none)
        | inr high ↦ ap (filter (has_key k)) (put_later x xs t high) ∙ elim (cases_eq (key x) k) [
          | inl at ↦ filter_yes (has_key k) x (put_in xs t) (eq-eqb (key x) k at) ∙ ap (λ l. x ∷ l) rest ∙ sym (ap (λ l. l ++ t ∷ []) (filter_yes (has_key k) x xs (eq-eqb (key x) k at)))
          | inr not ↦ filter_no (has_key k) x (put_in xs t) (ne_eqb (key x) k not) ∙ rest ∙ sym (ap (λ l. l ++ t ∷ []) (filter_no (has_key k) x xs (ne_eqb (key x) k not)))
        ]
      ]

  -- of each key those that were put in follow those that stood there
  pub filter_put_all : (k : ℕ) (xs ts : List X) → Rises xs → filter (has_key k) (put_all xs ts) ≡ filter (has_key k) xs ++ filter (has_key k) ts
  filter_put_all k xs [] h = sym (append-nil (filter (has_key k) xs))
  filter_put_all k xs (t ∷ ts) h =
      filter_put_all k (put_in xs t) ts (put_rises xs t h) ∙ elim (cases_eq (key t) k) [
        | inl is ↦ ap (λ l. l ++ filter (has_key k) ts) (filter_put_same k xs t is h) ∙ append_assoc (filter (has_key k) xs) (t ∷ []) (filter (has_key k) ts) ∙ ap (λ l. filter (has_key k) xs ++ l) (sym (filter_yes (has_key k) t ts (eq-eqb (key t) k is)))
        | inr not ↦ ap (λ l. l ++ filter (has_key k) ts) (filter_put_other k xs t not) ∙ ap (λ l. filter (has_key k) xs ++ l) (sym (filter_no (has_key k) t ts (ne_eqb (key t) k not)))
      ]

  abbrev SameKeys : List X → List X → Type 0
  SameKeys xs ys = (k : ℕ) → filter (has_key k) xs ≡ filter (has_key k) ys

  abbrev first_of : X → List X → X
  first_of d [] = d
  first_of d (x ∷ xs) = x

  abbrev rest_of : List X → List X
  rest_of [] = []
  rest_of (x ∷ xs) = xs

  own_key : (x : X) (xs : List X) → filter (has_key (key x)) (x ∷ xs) ≡ x ∷ filter (has_key (key x)) xs
  own_key x xs = filter_yes (has_key (key x)) x xs (eq-eqb (key x) (key x) refl)

  -- no item of the second list has the least key of the first
  not_below : (x : X) (xs : List X) (y : X) (ys : List X) → key x < key y → Rises (y ∷ ys) → filter (has_key (key x)) (x ∷ xs) ≡ filter (has_key (key x)) (y ∷ ys) → ⊥
  not_below x xs y ys low h e =
      let none = filter_above (key x) (y ∷ ys) (All-cons (λ z. key x < key z) y ys low (All-weaker (λ z. key y ≤ key z) (λ z. key x < key z) (λ z l. omega (arith, low, l)) ys h.0)) in
      let long = ap length (sym (own_key x xs) ∙ e ∙ none) in omega (arith, long)

  -- rising lists that have the same items of each key are one
  pub one_rising : (xs ys : List X) → Rises xs → Rises ys → SameKeys xs ys → xs ≡ ys
  one_rising [] [] h g same = refl
  one_rising [] (y ∷ ys) h g same = absurd (let long = ap length (same (key y) ∙ own_key y ys) in omega (arith, long))
  one_rising (x ∷ xs) [] h g same = absurd (let long = ap length (sym (own_key x xs) ∙ same (key x)) in omega (arith, long))
  one_rising (x ∷ xs) (y ∷ ys) h g same = elim (cases_order (key x) (key y)) [
    | inl is ↦
        let own : filter (has_key (key x)) (y ∷ ys) ≡ y ∷ filter (has_key (key x)) ys = filter_yes (has_key (key x)) y ys (eq-eqb (key y) (key x) (sym is)) in
        let both = sym (own_key x xs) ∙ same (key x) ∙ own in
        let head : x ≡ y = ap (first_of x) both in
        let tails : SameKeys xs ys = λ k. elim (cases_eq (key x) k) [
          | inl at ↦ ap (λ j. filter (has_key j) xs) (sym at) ∙ ap rest_of both ∙ ap (λ j. filter (has_key j) ys) at
          | inr not ↦ sym (filter_no (has_key k) x xs (ne_eqb (key x) k not)) ∙ same k ∙ filter_no (has_key k) y ys (ne_eqb (key y) k (λ e. not (is ∙ e)))
        ] in
        ap (λ z. z ∷ xs) head ∙ ap (λ l. y ∷ l) (one_rising xs ys h.1 g.1 tails)
    | inr (inl low) ↦ absurd (not_below x xs y ys low g (same (key x)))
    | inr (inr high) ↦ absurd (not_below y ys x xs high h (sym (same (key y))))
  ]

  -- items of one key rise
  pub rises_same : (d : ℕ) (xs : List X) → All (λ x. key x ≡ d) xs → Rises xs
  rises_same d [] h = tt
  rises_same d (x ∷ xs) h = (
    All-weaker (λ y. key y ≡ d) (λ y. key x ≤ key y) (λ y e. let a = All-head (λ y. key y ≡ d) x xs h in omega (arith, a, e)) xs (All-tail (λ y. key y ≡ d) x xs h),
    rises_same d xs (All-tail (λ y. key y ≡ d) x xs h),
  )

  pub rises_append : (d : ℕ) (xs ys : List X) → All (λ x. key x ≡ d) xs → Rises ys → All (λ y. d ≤ key y) ys → Rises (xs ++ ys)
  rises_append d [] ys h g l = g
  rises_append d (x ∷ xs) ys h g l =
      let a = All-head (λ y. key y ≡ d) x xs h in
      let t = All-tail (λ y. key y ≡ d) x xs h in (
        All-append (λ y. key x ≤ key y) xs ys (All-weaker (λ y. key y ≡ d) (λ y. key x ≤ key y) (λ y e. omega (arith, a, e)) xs t) (All-weaker (λ y. d ≤ key y) (λ y. key x ≤ key y) (λ y m. omega (arith, a, m)) ys l),
        rises_append d xs ys t g l,
      )

  -- putting into a list whose first items are no later
  put_behind : (xs ys : List X) (t : X) → All (λ x. key x ≤ key t) xs → put_in (xs ++ ys) t ≡ xs ++ put_in ys t
  put_behind [] ys t h = refl
  put_behind (x ∷ xs) ys t h = put_later x (xs ++ ys) t (All-head (λ y. key y ≤ key t) x xs h) ∙ ap (λ l. x ∷ l) (put_behind xs ys t (All-tail (λ y. key y ≤ key t) x xs h))

  pub put_all_behind : (d : ℕ) (xs ys ts : List X) → All (λ x. key x ≤ d) xs → All (λ t. key t ≡ d) ts → put_all (xs ++ ys) ts ≡ xs ++ put_all ys ts
  put_all_behind d xs ys [] h g = refl
  put_all_behind d xs ys (t ∷ ts) h g =
      let a = All-head (λ y. key y ≡ d) t ts g in
      ap (λ l. put_all l ts) (put_behind xs ys t (All-weaker (λ x. key x ≤ d) (λ x. key x ≤ key t) (λ x l. omega (arith, a, l)) xs h))
      ∙ put_all_behind d xs (put_in ys t) ts h (All-tail (λ y. key y ≡ d) t ts g)

  put_before : (ys : List X) (t : X) → All (λ y. key t < key y) ys → put_in ys t ≡ t ∷ ys
  put_before [] t h = refl
  put_before (y ∷ ys) t h = put_here y ys t (All-head (λ z. key t < key z) y ys h)

  pub put_all_before : (d : ℕ) (xs ys ts : List X) → All (λ x. key x ≤ d) xs → All (λ y. d < key y) ys → All (λ t. key t ≡ d) ts → put_all (xs ++ ys) ts ≡ (xs ++ ts) ++ ys
  put_all_before d xs ys [] h l g = ap (λ m. m ++ ys) (sym (append-nil xs))
  put_all_before d xs ys (t ∷ ts) h l g =
      let a = All-head (λ y. key y ≡ d) t ts g in
      ap (λ m. put_all m ts) (put_behind xs ys t (All-weaker (λ x. key x ≤ d) (λ x. key x ≤ key t) (λ x m. omega (arith, a, m)) xs h)
      ∙ ap (λ m. xs ++ m) (put_before ys t (All-weaker (λ y. d < key y) (λ y. key t < key y) (λ y m. omega (arith, a, m)) ys l))
      ∙ sym (append_assoc xs (t ∷ []) ys))
      ∙ put_all_before d (xs ++ t ∷ []) ys ts (All-append (λ x. key x ≤ d) xs (t ∷ []) h (All-cons (λ x. key x ≤ d) t [] (omega (arith, a)) (All-nil (λ x. key x ≤ d)))) l (All-tail (λ y. key y ≡ d) t ts g)
      ∙ ap (λ m. m ++ ys) (append_assoc xs (t ∷ []) ts)

module _ {X Y : Type 0} (R : X → Y → Type 0) (key : X → ℕ) (other : Y → ℕ) (same : (x : X) (y : Y) → R x y → key x ≡ other y) where
  zip_put : (xs : List X) (ys : List Y) (t : X) (u : Y) → AllZip R xs ys → R t u → AllZip R (put_in key xs t) (put_in other ys u)
  zip_put [] [] t u z r = (r, z)
  zip_put [] (y ∷ ys) t u z r = absurd z
  zip_put (x ∷ xs) [] t u z r = absurd z
  zip_put (x ∷ xs) (y ∷ ys) t u z r =
      let rest = zip_put xs ys t u z.1 r in
      let a = same x y z.0 in let b = same t u r in
      elim (cases_lt (key t) (key x)) [
        | inl low ↦ rw (put_here key x xs t low, put_here other y ys u (omega (arith, a, b, low))) (r, z)
        | inr high ↦ rw (put_later key x xs t high, put_later other y ys u (omega (arith, a, b, high))) (z.0, rest)
      ]

  pub zip_put_all : (xs : List X) (ys : List Y) (ts : List X) (us : List Y) → AllZip R xs ys → AllZip R ts us → AllZip R (put_all key xs ts) (put_all other ys us)
  zip_put_all xs ys [] [] z r = z
  zip_put_all xs ys [] (u ∷ us) z r = absurd r
  zip_put_all xs ys (t ∷ ts) [] z r = absurd r
  zip_put_all xs ys (t ∷ ts) (u ∷ us) z r = zip_put_all (put_in key xs t) (put_in other ys u) ts us (zip_put xs ys t u z r.0) r.1
