-- The places of rows: of those that are listed, sorted, and left without the implied ones.
use Rattle.std.proofs.Common.{◌≡◌, ◌≢◌, ◌↔◌, ℕ, ◌<◌, Bool, true, false, not, cond, List, [], ◌∷◌, map, filter, flat_map, zip, Contains, AllPairs, refl, sym, ap, ◌∙◌, subst, arith, ⊎_elim}
use Rattle.std.specs.List.{AllZip, range_with_len}
use Rattle.std.proofs.lemmas.List.{map-append}
use Rattle.std.proofs.lemmas.List.FromFn.{get_or-range_with_len, length-range_with_len}
use Rattle.trace_types.proofs.ElementLemmas.{Contains-flat_map, Contains-map, Contains-one, from_flat_map, from_map}
use Rattle.trace_types.proofs.ListingLemmas.{Contains-cons, Contains-here, Contains-nil, cons_cases, head_before, pairs_tail}
use Rattle.trace_types.proofs.PairLemmas.{AllPairs-append, AllPairs-nil, pairs_cons}
use Rattle.trace_types.proofs.PuttingLemmas.{all_contained}
use Rattle.evidence_rules.specs.EvidenceRows.{AreReduced, Listing, places_of, rows_where}
use Rattle.evidence_rules.specs.Reaching.{IsImplied}
use Rattle.evidence_rules.specs.declared.pair_row.PairRow.{PairRow}

-- the rows have exactly the places with the property, each once
pub record HavePlaces {F : Type 0} (Q : ℕ × ℕ → Type 0) (rows : List (PairRow F)) : Type 0 where
  pub differ : AllPairs (λ p q. p ≢ q) (map places_of rows)
  pub exactly : (p : ℕ × ℕ) → Contains (map places_of rows) p ↔ Q p

-- ---- numbers below a count
in_range : (n k : ℕ) → k < n → Contains (range_with_len 0 n) k
in_range n k l = (k, omega (arith, length-range_with_len 0 n), get_or-range_with_len 0 n k k l ∙ omega arith)

range_in : (n k : ℕ) → Contains (range_with_len 0 n) k → k < n
range_in n k (i, l, e) =
    let h : i < n = omega (arith, length-range_with_len 0 n) in
    omega (arith, get_or-range_with_len 0 n i k h, e)

range_differ : (n : ℕ) → AllPairs (λ x y. x ≢ y) (range_with_len 0 n)
range_differ n i j d lt within e =
    let h : j < n = omega (arith, length-range_with_len 0 n) in
    omega (arith, lt, e, get_or-range_with_len 0 n i d (omega arith), get_or-range_with_len 0 n j d h)

-- lists one after another, in which nothing stands twice
module _ {X Y Z : Type 0} (f : X → List Y) (g : Y → Z) where
  flat_differ : (xs : List X) → AllPairs (λ x z. x ≢ z) xs → ((x : X) → AllPairs (λ u v. u ≢ v) (map g (f x)))
      → ((x z : X) (y w : Y) → x ≢ z → Contains (f x) y → Contains (f z) w → g y ≢ g w) → AllPairs (λ u v. u ≢ v) (map g (flat_map f xs))
  flat_differ [] apart each across = AllPairs-nil (λ u v. u ≢ v)
  flat_differ (x ∷ xs) apart each across =
      subst (AllPairs (λ (u v : Z). u ≢ v)) (sym (map-append g (f x) (flat_map f xs)))
      (AllPairs-append (λ u v. u ≢ v) (map g (f x)) (map g (flat_map f xs)) (each x)
      (flat_differ xs (pairs_tail (λ y z. y ≢ z) x xs apart) each across)
      (λ u v cu cv.
      let y = from_map g (f x) u cu in
      let w = from_map g (flat_map f xs) v cv in
      let z = from_flat_map f xs w.0 w.1 in
      λ e. across x z.0 y.0 w.0 (head_before (λ p q. p ≢ q) x xs z.0 apart z.1) y.1 z.2 (y.2 ∙ e ∙ sym w.2)))

-- ---- the rows that are listed
module _ {F : Type 0} (figures : ℕ → ℕ → F) (is : Listing F) where
  abbrev row : ℕ → ℕ → PairRow F
  row a b = record { first = a; second = b; figures = figures a b }

  abbrev cell : ℕ → ℕ → List (PairRow F)
  cell a b = cond (is a b (figures a b)) (row a b ∷ []) []

  abbrev line : ℕ → ℕ → List (PairRow F)
  line n a = flat_map (cell a) (range_with_len 0 n)

  from_cell : (a b : ℕ) (r : PairRow F) → Contains (cell a b) r → (is a b (figures a b) ≡ true) × (row a b ≡ r)
  from_cell a b r c = by (is a b (figures a b)) refl c
    where
      by : (q : Bool) → is a b (figures a b) ≡ q → Contains (cond q (row a b ∷ []) []) r → (is a b (figures a b) ≡ true) × (row a b ≡ r)
      by true e c = (e, Contains-one (row a b) r c)
      by false e c = absurd (Contains-nil r c)

  to_cell : (a b : ℕ) → is a b (figures a b) ≡ true → Contains (cell a b) (row a b)
  to_cell a b e = subst (λ (q : Bool). Contains (cond q (row a b ∷ []) []) (row a b)) (sym e) (Contains-here (row a b) [] (row a b) refl)

  cell_differ : (a b : ℕ) → AllPairs (λ u v. u ≢ v) (map places_of (cell a b))
  cell_differ a b = by (is a b (figures a b))
    where
      by : (q : Bool) → AllPairs (λ u v. u ≢ v) (map places_of (cond q (row a b ∷ []) []))
      by true = λ i j d l h. absurd (omega arith)
      by false = λ i j d l h. absurd (omega arith)

  from_line : (n a : ℕ) (r : PairRow F) → Contains (line n a) r → (b : ℕ) × (b < n) × (is a b (figures a b) ≡ true) × (row a b ≡ r)
  from_line n a r c =
      let b = from_flat_map (cell a) (range_with_len 0 n) r c in
      let e = from_cell a b.0 r b.2 in
      (b.0, range_in n b.0 b.1, e.0, e.1)

  -- a row has the figures of its places
  pub listed_figures : (n : ℕ) (r : PairRow F) → Contains (rows_where figures is n) r → r.figures ≡ figures r.first r.second
  listed_figures n r c =
      let a = from_flat_map (line n) (range_with_len 0 n) r c in
      let b = from_line n a.0 r a.2 in
      subst (λ (q : PairRow F). q.figures ≡ figures q.first q.second) b.3 refl

  line_differ : (n a : ℕ) → AllPairs (λ u v. u ≢ v) (map places_of (line n a))
  line_differ n a = flat_differ (cell a) places_of (range_with_len 0 n) (range_differ n) (cell_differ a)
      (λ b d y w apart cy cw e. apart (let f = (from_cell a b y cy).1 in let g = (from_cell a d w cw).1 in ap (λ (p : ℕ × ℕ). p.1) (ap places_of f ∙ e ∙ sym (ap places_of g))))

  pub listed_places : (n : ℕ) → HavePlaces (λ p. (p.0 < n) × (p.1 < n) × (is p.0 p.1 (figures p.0 p.1) ≡ true)) (rows_where figures is n)
  listed_places n = record {
    differ = flat_differ (line n) places_of (range_with_len 0 n) (range_differ n) (line_differ n)
        (λ a c y w apart cy cw e. apart (let f = (from_line n a y cy).3 in let g = (from_line n c w cw).3 in ap (λ (p : ℕ × ℕ). p.0) (ap places_of f ∙ e ∙ sym (ap places_of g))));
    exactly = λ p. (
      (λ c.
          let r = from_map places_of (rows_where figures is n) p c in
          let a = from_flat_map (line n) (range_with_len 0 n) r.0 r.1 in
          let b = from_line n a.0 r.0 a.2 in
          let same : (a.0, b.0) ≡ p = ap places_of b.3 ∙ r.2 in
          subst (λ (q : ℕ × ℕ). (q.0 < n) × (q.1 < n) × (is q.0 q.1 (figures q.0 q.1) ≡ true)) same (range_in n a.0 a.1, b.1, b.2)),
      (λ h. Contains-map places_of (rows_where figures is n) (row p.0 p.1) p
          (Contains-flat_map (line n) (range_with_len 0 n) p.0 (row p.0 p.1) (in_range n p.0 h.0)
          (Contains-flat_map (cell p.0) (range_with_len 0 n) p.1 (row p.0 p.1) (in_range n p.1 h.1) (to_cell p.0 p.1 h.2))) refl),
    );
  }

-- ---- what is left of a list, without those that have a property
module _ {X : Type 0} where
  abbrev pub left_of : List X → List Bool → List X
  left_of xs marks = map (λ (x : X × Bool). x.0) (filter (λ (x : X × Bool). not x.1) (zip xs marks))

  pub left_from : (xs : List X) (marks : List Bool) (x : X) → Contains (left_of xs marks) x → Contains xs x
  left_from [] marks x c = absurd (Contains-nil x c)
  left_from (y ∷ xs) [] x c = absurd (Contains-nil x c)
  left_from (y ∷ xs) (true ∷ marks) x c = Contains-cons y xs x (left_from xs marks x c)
  left_from (y ∷ xs) (false ∷ marks) x c = ⊎_elim
      (λ (e : y ≡ x). Contains-here y xs x e)
      (λ (h : Contains (left_of xs marks) x). Contains-cons y xs x (left_from xs marks x h))
      (cons_cases y (left_of xs marks) x c)

  pub left_differ : {Z : Type 0} (g : X → Z) (xs : List X) (marks : List Bool) → AllPairs (λ u v. u ≢ v) (map g xs) → AllPairs (λ u v. u ≢ v) (map g (left_of xs marks))
  left_differ g [] marks apart = AllPairs-nil (λ u v. u ≢ v)
  left_differ g (y ∷ xs) [] apart = AllPairs-nil (λ u v. u ≢ v)
  left_differ g (y ∷ xs) (true ∷ marks) apart = left_differ g xs marks (pairs_tail (λ u v. u ≢ v) (g y) (map g xs) apart)
  left_differ g (y ∷ xs) (false ∷ marks) apart =
      pairs_cons (λ u v. u ≢ v) (g y) (map g (left_of xs marks))
      (all_contained (λ v. g y ≢ v) (map g (left_of xs marks)) (λ z c.
      let r = from_map g (left_of xs marks) z c in
      head_before (λ u v. u ≢ v) (g y) (map g xs) z apart (Contains-map g xs r.0 z (left_from xs marks r.0 r.1) r.2)))
      (left_differ g xs marks (pairs_tail (λ u v. u ≢ v) (g y) (map g xs) apart))

  module _ (Q : X → Type 0) where
    pub from_left : (xs : List X) (marks : List Bool) → AllZip (λ x v. (v ≡ true) ↔ Q x) xs marks → (x : X) → Contains (left_of xs marks) x → Contains xs x × (Q x → ⊥)
    from_left [] marks told x c = absurd (Contains-nil x c)
    from_left (y ∷ xs) [] told x c = absurd told
    from_left (y ∷ xs) (true ∷ marks) told x c = let r = from_left xs marks told.1 x c in (Contains-cons y xs x r.0, r.1)
    from_left (y ∷ xs) (false ∷ marks) told x c = ⊎_elim
        (λ (e : y ≡ x). (Contains-here y xs x e, λ q. let f : false ≡ true = told.0.1 (subst Q (sym e) q) in cc))
        (λ (h : Contains (left_of xs marks) x). let r = from_left xs marks told.1 x h in (Contains-cons y xs x r.0, r.1))
        (cons_cases y (left_of xs marks) x c)

    pub to_left : (xs : List X) (marks : List Bool) → AllZip (λ x v. (v ≡ true) ↔ Q x) xs marks → (x : X) → Contains xs x → (Q x → ⊥) → Contains (left_of xs marks) x
    to_left [] marks told x c none = absurd (Contains-nil x c)
    to_left (y ∷ xs) [] told x c none = absurd told
    to_left (y ∷ xs) (true ∷ marks) told x c none = ⊎_elim
        (λ (e : y ≡ x). absurd (none (subst Q e (told.0.0 refl))))
        (λ (h : Contains xs x). to_left xs marks told.1 x h none)
        (cons_cases y xs x c)
    to_left (y ∷ xs) (false ∷ marks) told x c none = ⊎_elim
        (λ (e : y ≡ x). Contains-here y (left_of xs marks) x e)
        (λ (h : Contains xs x). Contains-cons y (left_of xs marks) x (to_left xs marks told.1 x h none))
        (cons_cases y xs x c)

-- ---- rows without the implied ones
module _ {F : Type 0} (rows left : List (PairRow F)) (are : AreReduced rows left) where
  pub not_implied : (p : ℕ × ℕ) → Contains (map places_of left) p ↔ (Contains (map places_of rows) p × (IsImplied (map places_of rows) p.0 p.1 → ⊥))
  not_implied p = (
    (λ c.
        let r = from_map places_of left p c in
        let s = from_left (λ (row : PairRow F). IsImplied (map places_of rows) row.first row.second) rows are.implied are.told r.0 (subst (λ (l : List (PairRow F)). Contains l r.0) are.are r.1) in
        (Contains-map places_of rows r.0 p s.0 r.2, λ i. s.1 (subst (λ (q : ℕ × ℕ). IsImplied (map places_of rows) q.0 q.1) (sym r.2) i))),
    (λ h.
        let r = from_map places_of rows p h.0 in
        let s = to_left (λ (row : PairRow F). IsImplied (map places_of rows) row.first row.second) rows are.implied are.told r.0 r.1 (λ i. h.1 (subst (λ (q : ℕ × ℕ). IsImplied (map places_of rows) q.0 q.1) r.2 i)) in
        Contains-map places_of left r.0 p (subst (λ (l : List (PairRow F)). Contains l r.0) (sym are.are) s) r.2),
  )

  pub reduced_places : (Q : ℕ × ℕ → Type 0) → HavePlaces Q rows → HavePlaces (λ p. Q p × (IsImplied (map places_of rows) p.0 p.1 → ⊥)) left
  reduced_places Q have = record {
    differ = subst (λ (l : List (PairRow F)). AllPairs (λ u v. u ≢ v) (map places_of l)) (sym are.are) (left_differ places_of rows are.implied have.differ);
    exactly = λ p. (
      (λ c. let h = (not_implied p).0 c in ((have.exactly p).0 h.0, h.1)),
      (λ h. (not_implied p).1 ((have.exactly p).1 h.0, h.1)),
    );
  }
