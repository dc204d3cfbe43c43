-- A step of the union of two rising lists, and its end.
use Rattle.std.proofs.Common.{◌≡◌, ◌⊎◌, ℕ, zero, suc, ◌+◌, ◌-◌, ◌<◌, ◌≤◌, List, [], ◌∷◌, ◌++◌, length, map, get_or, take, drop, refl, sym, ap, ◌∙◌, subst, ⊎_elim, inl, inr, arith, Ordering, append_assoc, append-nil, drop_of_length-le}
use Rattle.std.specs.declared.cmp.Ordering.TheVariants.{Less, Equal, Greater}
use Rattle.std.specs.Cmp.{nat_cmp_is}
use Rattle.std.specs.List.{Contains}
use Rattle.std.specs.Ordering.{nat_cmp, ordering_reverse}
use Rattle.std.proofs.lemmas.List.{get_or-map, length-map, take_rest}
use Rattle.digest_facts.specs.Digests.{Rises, TellsApart, union}
use Rattle.digest_facts.proofs.MergeLemmas.{union_nil}
use Rattle.digest_facts.proofs.StepLemmas.{drop_here, first_both, first_left, first_right, rises_drop}
use Rattle.digest_facts.proofs.UnionLemmas.{cons_cases, head_before}

module _ {X : Type 0} (cmp : X → X → Ordering) (o : TellsApart cmp) where
  -- what is greater has the other below it
  greater_turned : (x y : X) → cmp x y ≡ Greater → cmp y x ≡ Less
  greater_turned x y e = turned (cmp x y) (cmp y x) (o.total.antisymm x y) e
    where
      turned : (a b : Ordering) → a ≡ ordering_reverse b → a ≡ Greater → b ≡ Less
      turned a Less q r = refl
      turned a Equal q r = let t : Greater ≡ Equal = sym r ∙ q in cc
      turned a Greater q r = let t : Greater ≡ Less = sym r ∙ q in cc

  -- the first of the one comes before all of the other
  less_all : (x y : X) (ys : List X) → cmp x y ≡ Less → Rises cmp (y ∷ ys) → (z : X) → Contains (y ∷ ys) z → cmp x z ≡ Less
  less_all x y ys lt q z c = ⊎_elim
      (λ (e : y ≡ z). subst (λ (v : X). cmp x v ≡ Less) e lt)
      (λ (h : Contains ys z). o.total.trans x y z lt (head_before (λ (a b : X). cmp a b ≡ Less) y ys z q h))
      (cons_cases y ys z c)

  -- what was taken, and the union of what is left, of rising lists
  pub record IsUnionTo (xs ys out : List X) (i j : ℕ) : Type 0 where
    pub left : i ≤ length xs
    pub right : j ≤ length ys
    pub so_far : Rises cmp xs → Rises cmp ys → out ++ union cmp (drop i xs) (drop j ys) ≡ union cmp xs ys

  module _ (xs ys out : List X) (i j : ℕ) (m : IsUnionTo xs ys out i j) (a : i < length xs) (b : j < length ys) (x y : X) (xe : x ≡ get_or xs i x) (ye : y ≡ get_or ys j y) where
    dx : drop i xs ≡ x ∷ drop (i + 1) xs
    dx = drop_here cmp o i xs x a ∙ ap (λ (v : X). v ∷ drop (i + 1) xs) (sym xe)

    dy : drop j ys ≡ y ∷ drop (j + 1) ys
    dy = drop_here cmp o j ys y b ∙ ap (λ (v : X). v ∷ drop (j + 1) ys) (sym ye)

    pub step_left : cmp x y ≡ Less → IsUnionTo xs ys (out ++ x ∷ []) (i + 1) j
    step_left lt = record {
      left = omega arith;
      right = m.right;
      so_far = λ p q.
          let px : Rises cmp (x ∷ drop (i + 1) xs) = subst (Rises cmp) dx (rises_drop cmp o i xs p) in
          let qy : Rises cmp (y ∷ drop (j + 1) ys) = subst (Rises cmp) dy (rises_drop cmp o j ys q) in
          let first : union cmp (x ∷ drop (i + 1) xs) (drop j ys) ≡ x ∷ union cmp (drop (i + 1) xs) (drop j ys) =
          first_left cmp o x (drop (i + 1) xs) (drop j ys) px (rises_drop cmp o j ys q) (λ z c. less_all x y (drop (j + 1) ys) lt qy z (subst (λ (l : List X). Contains l z) dy c)) in
          append_assoc out (x ∷ []) (union cmp (drop (i + 1) xs) (drop j ys))
          ∙ ap (λ (l : List X). out ++ l) (sym first ∙ ap (λ (l : List X). union cmp l (drop j ys)) (sym dx)) ∙ m.so_far p q;
    }

    pub step_right : cmp y x ≡ Less → IsUnionTo xs ys (out ++ y ∷ []) i (j + 1)
    step_right lt = record {
      left = m.left;
      right = omega arith;
      so_far = λ p q.
          let px : Rises cmp (x ∷ drop (i + 1) xs) = subst (Rises cmp) dx (rises_drop cmp o i xs p) in
          let qy : Rises cmp (y ∷ drop (j + 1) ys) = subst (Rises cmp) dy (rises_drop cmp o j ys q) in
          let first : union cmp (drop i xs) (y ∷ drop (j + 1) ys) ≡ y ∷ union cmp (drop i xs) (drop (j + 1) ys) =
          first_right cmp o y (drop i xs) (drop (j + 1) ys) (rises_drop cmp o i xs p) qy (λ z c. less_all y x (drop (i + 1) xs) lt px z (subst (λ (l : List X). Contains l z) dx c)) in
          append_assoc out (y ∷ []) (union cmp (drop i xs) (drop (j + 1) ys))
          ∙ ap (λ (l : List X). out ++ l) (sym first ∙ ap (λ (l : List X). union cmp (drop i xs) l) (sym dy)) ∙ m.so_far p q;
    }

    pub step_both : cmp x y ≡ Equal → IsUnionTo xs ys (out ++ x ∷ []) (i + 1) (j + 1)
    step_both eq = record {
      left = omega arith;
      right = omega arith;
      so_far = λ p q.
          let px : Rises cmp (x ∷ drop (i + 1) xs) = subst (Rises cmp) dx (rises_drop cmp o i xs p) in
          let qy : Rises cmp (y ∷ drop (j + 1) ys) = subst (Rises cmp) dy (rises_drop cmp o j ys q) in
          let first = first_both cmp o x y (drop (i + 1) xs) (drop (j + 1) ys) (o.one x y eq) px qy in
          append_assoc out (x ∷ []) (union cmp (drop (i + 1) xs) (drop (j + 1) ys))
          ∙ ap (λ (l : List X). out ++ l) (sym first ∙ ap (λ (l : List X). union cmp l (y ∷ drop (j + 1) ys)) (sym dx) ∙ ap (λ (l : List X). union cmp (drop i xs) l) (sym dy)) ∙ m.so_far p q;
    }

  -- where one of the lists is used up, the rest of both is what is left
  pub union_whole : (xs ys out : List X) (i j : ℕ) → IsUnionTo xs ys out i j → (length xs ≤ i) ⊎ (length ys ≤ j) → Rises cmp xs → Rises cmp ys → (out ++ drop i xs) ++ drop j ys ≡ union cmp xs ys
  union_whole xs ys out i j m s p q =
      append_assoc out (drop i xs) (drop j ys) ∙ ap (λ (l : List X). out ++ l) (⊎_elim
      (λ (h : length xs ≤ i).
      let e : drop i xs ≡ [] = drop_of_length-le xs h in
      ap (λ (l : List X). l ++ drop j ys) e ∙ sym (ap (λ (l : List X). union cmp l (drop j ys)) e))
      (λ (h : length ys ≤ j).
      let e : drop j ys ≡ [] = drop_of_length-le ys h in
      ap (λ (l : List X). drop i xs ++ l) e ∙ append-nil (drop i xs) ∙ sym (ap (λ (l : List X). union cmp (drop i xs) l) e ∙ union_nil cmp o (drop i xs) (rises_drop cmp o i xs p)))
      s) ∙ m.so_far p q

pub less_is : (x y : ℕ) → x < y → nat_cmp x y ≡ Less
less_is x y h = sym (nat_cmp_is x y Less h)

pub equal_is : (x y : ℕ) → y ≤ x → x ≤ y → nat_cmp x y ≡ Equal
equal_is x y le ge = sym (nat_cmp_is x y Equal (omega arith))

-- the elements of rows
abbrev pub keys : {X L : Type 0} → List (X × L) → List X
keys {X} {L} rows = map (λ (r : X × L). r.0) rows

-- the key of a row is the element at its place
at_key : {X L : Type 0} (rows : List (X × L)) (i : ℕ) (row : X × L) (x : X) → i < length rows → row ≡ get_or rows i row → x ≡ row.0 → x ≡ get_or (keys rows) i x
at_key {X} {L} rows i row x lt at is = is ∙ ap (λ (r : X × L). r.0) at ∙ sym (get_or-map (λ (r : X × L). r.0) rows i row x lt)

-- the elements of the rows from a place on
keys_rest : {X L : Type 0} (rows : List (X × L)) (i : ℕ) → map (λ (r : X × L). r.0) (take (length rows - i) (drop i rows)) ≡ drop i (keys rows)
keys_rest {X} {L} rows i = ap (λ (rs : List (X × L)). keys rs) (take_rest rows i) ∙ dropped rows i
  where
    dropped : (rs : List (X × L)) (n : ℕ) → keys (drop n rs) ≡ drop n (keys rs)
    dropped rs zero = refl
    dropped [] (suc n) = refl
    dropped (r ∷ rs) (suc n) = dropped rs n

module _ {X L : Type 0} (cmp : X → X → Ordering) (o : TellsApart cmp) (rows others : List (X × L)) (out : List X) (i j : ℕ) (m : IsUnionTo cmp o (keys rows) (keys others) out i j) where
  module _ (new : List X) (a : i < length rows) (b : j < length others) (row other : X × L) (l r x : X) (at : row ≡ get_or rows i row) (there : other ≡ get_or others j other) (left : l ≡ row.0) (right : r ≡ other.0) (more : new ≡ out ++ x ∷ []) where
    ka : i < length (keys rows)
    ka = omega (arith, a, length-map rows (λ (q : X × L). q.0))

    kb : j < length (keys others)
    kb = omega (arith, b, length-map others (λ (q : X × L). q.0))

    -- the lower row is that of the first list
    pub row_left : x ≡ l → cmp l r ≡ Less → IsUnionTo cmp o (keys rows) (keys others) new (i + 1) j
    row_left is less = subst (λ (q : List X). IsUnionTo cmp o (keys rows) (keys others) q (i + 1) j) (sym more)
        (step_left cmp o (keys rows) (keys others) out i j m ka kb x r (at_key rows i row x a at (is ∙ left)) (at_key others j other r b there right) (subst (λ (v : X). cmp v r ≡ Less) (sym is) less))

    -- it is that of the second
    pub row_right : x ≡ r → cmp l r ≡ Greater → IsUnionTo cmp o (keys rows) (keys others) new i (j + 1)
    row_right is more_than = subst (λ (q : List X). IsUnionTo cmp o (keys rows) (keys others) q i (j + 1)) (sym more)
        (step_right cmp o (keys rows) (keys others) out i j m ka kb l x (at_key rows i row l a at left) (at_key others j other x b there (is ∙ right)) (subst (λ (v : X). cmp v l ≡ Less) (sym is) (greater_turned cmp o l r more_than)))

    -- both have it
    pub row_both : x ≡ l → cmp l r ≡ Equal → IsUnionTo cmp o (keys rows) (keys others) new (i + 1) (j + 1)
    row_both is equal = subst (λ (q : List X). IsUnionTo cmp o (keys rows) (keys others) q (i + 1) (j + 1)) (sym more)
        (step_both cmp o (keys rows) (keys others) out i j m ka kb x r (at_key rows i row x a at (is ∙ left)) (at_key others j other r b there right) (subst (λ (v : X). cmp v r ≡ Equal) (sym is) equal))

  -- the rest of both behind what was taken is the union
  pub rows_whole : (mid new : List X) → (length rows ≤ i) ⊎ (length others ≤ j) → mid ≡ out ++ map (λ (r : X × L). r.0) (take (length rows - i) (drop i rows)) → new ≡ mid ++ map (λ (r : X × L). r.0) (take (length others - j) (drop j others)) → Rises cmp (keys rows) → Rises cmp (keys others) → new ≡ union cmp (keys rows) (keys others)
  rows_whole mid new over first second p q =
      let a : mid ≡ out ++ drop i (keys rows) = first ∙ ap (λ (l : List X). out ++ l) (keys_rest rows i) in
      let b : new ≡ (out ++ drop i (keys rows)) ++ drop j (keys others) = second ∙ ap (λ (l : List X). mid ++ l) (keys_rest others j) ∙ ap (λ (l : List X). l ++ drop j (keys others)) a in
      let ended : (length (keys rows) ≤ i) ⊎ (length (keys others) ≤ j) = ⊎_elim
      (λ (h : length rows ≤ i). inl (omega (arith, h, length-map rows (λ (r : X × L). r.0))))
      (λ (h : length others ≤ j). inr (omega (arith, h, length-map others (λ (r : X × L). r.0))))
      over in
      b ∙ union_whole cmp o (keys rows) (keys others) out i j m ended p q
