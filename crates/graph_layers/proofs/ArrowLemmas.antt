-- The pairs that are kept, and those that are joined.
use Rattle.std.proofs.Common.{◌≡◌, ◌≢◌, ◌⊎◌, ◌↔◌, ℕ, zero, suc, ◌+◌, ◌<◌, ◌≤◌, ◌++◌, ◌∷◌, [], Bool, true, false, not, eqb, ◌&&◌, List, length, take, get_or, Contains, refl, sym, ap, ◌∙◌, subst, arith, inl, inr, ⊎_elim}
use Rattle.std.specs.List.{AllZip}
use Rattle.std.proofs.lemmas.Bool.{cases_lt, eq-eqb, ne_eqb}
use Rattle.std.proofs.lemmas.List.{take_all, take_more}
use Rattle.std.proofs.lemmas.List.Elements.{Contains-append_left, Contains-get_or, Contains-push, Contains-push_cases}
use Rattle.std.proofs.lemmas.List.Quantifiers.{all_pairs_push}
use Rattle.evidence_rules.specs.Reaching.{IsChain, IsImplied}
use Rattle.implied_pairs.specs.Laws.{AreNotImplied}
use Rattle.implied_pairs.specs.Pairs.{AreBelow}
use Rattle.graph_layers.specs.Joined.{AreJoined, IsJoined}
use Rattle.graph_layers.specs.inner.Chains.{HasJoined, IsMatrix, StandsBefore, at, is_joined, is_pair}
use Rattle.graph_layers.proofs.DepthLemmas.{not_both}
use Rattle.graph_layers.proofs.ReachLemmas.{and_first, and_second, both_true, chain_below, in_pair, pair_below, pair_in}

-- ---- marks beside pairs
pub zip_at : (R : ℕ × ℕ → Bool → Type 0) (xs : List (ℕ × ℕ)) (ys : List Bool) (i : ℕ) → AllZip R xs ys → i < length xs → R (get_or xs i (0, 0)) (get_or ys i false)
zip_at R [] ys i h l = absurd (omega (arith, l))
zip_at R (x ∷ xs) [] i h l = absurd h
zip_at R (x ∷ xs) (y ∷ ys) zero h l = h.0
zip_at R (x ∷ xs) (y ∷ ys) (suc i) h l = zip_at R xs ys i h.1 (omega (arith, l))

pub zip_length : (R : ℕ × ℕ → Bool → Type 0) (xs : List (ℕ × ℕ)) (ys : List Bool) → AllZip R xs ys → length xs ≡ length ys
zip_length R [] [] h = refl
zip_length R [] (y ∷ ys) h = absurd h
zip_length R (x ∷ xs) [] h = absurd h
zip_length R (x ∷ xs) (y ∷ ys) h = ap (λ (n : ℕ). suc n) (zip_length R xs ys h.1)

-- ---- the kept ones of the first so many
pub record KeptSoFar (pairs : List (ℕ × ℕ)) (n : ℕ) (left : List (ℕ × ℕ)) : Type 0 where
  pub each : (a b : ℕ) → Contains left (a, b) ↔ (Contains (take n pairs) (a, b) × (IsImplied pairs a b → ⊥))

pub kept_none : (pairs left : List (ℕ × ℕ)) → left ≡ [] → KeptSoFar pairs 0 left
kept_none pairs left e = record { each = λ a b. ((λ c. absurd (omega (arith, c.1, ap length e))), (λ c. absurd (omega (arith, c.0.1)))) }

pub kept_yes : (pairs left new : List (ℕ × ℕ)) (n : ℕ) (p : ℕ × ℕ) → n < length pairs → p ≡ get_or pairs n (0, 0) → (IsImplied pairs p.0 p.1 → ⊥) → new ≡ left ++ p ∷ [] → KeptSoFar pairs n left → KeptSoFar pairs (n + 1) new
kept_yes pairs left new n p lt is not_so e so =
    let more : take (n + 1) pairs ≡ take n pairs ++ p ∷ [] = take_more pairs n (0, 0) lt ∙ ap (λ (q : ℕ × ℕ). take n pairs ++ q ∷ []) (sym is) in
    record {
      each = λ a b. (
        (λ c. ⊎_elim
            (λ (old : Contains left (a, b)).
            let was = (so.each a b).0 old in
            (subst (λ (xs : List (ℕ × ℕ)). Contains xs (a, b)) (sym more) (Contains-append_left (take n pairs) (p ∷ []) (a, b) was.0), was.1))
            (λ (now : p ≡ (a, b)).
            (subst (λ (xs : List (ℕ × ℕ)). Contains xs (a, b)) (sym more) (subst (Contains (take n pairs ++ p ∷ [])) now (Contains-push (take n pairs) p)), subst (λ (q : ℕ × ℕ). IsImplied pairs q.0 q.1 → ⊥) now not_so))
            (Contains-push_cases left p (a, b) (subst (λ (xs : List (ℕ × ℕ)). Contains xs (a, b)) e c))),
        (λ c. subst (λ (xs : List (ℕ × ℕ)). Contains xs (a, b)) (sym e) (⊎_elim
            (λ (old : Contains (take n pairs) (a, b)). Contains-append_left left (p ∷ []) (a, b) ((so.each a b).1 (old, c.1)))
            (λ (now : p ≡ (a, b)). subst (Contains (left ++ p ∷ [])) now (Contains-push left p))
            (Contains-push_cases (take n pairs) p (a, b) (subst (λ (xs : List (ℕ × ℕ)). Contains xs (a, b)) more c.0)))),
      );
    }

pub kept_no : (pairs left : List (ℕ × ℕ)) (n : ℕ) (p : ℕ × ℕ) → n < length pairs → p ≡ get_or pairs n (0, 0) → IsImplied pairs p.0 p.1 → KeptSoFar pairs n left → KeptSoFar pairs (n + 1) left
kept_no pairs left n p lt is so_it so =
    let more : take (n + 1) pairs ≡ take n pairs ++ p ∷ [] = take_more pairs n (0, 0) lt ∙ ap (λ (q : ℕ × ℕ). take n pairs ++ q ∷ []) (sym is) in
    record {
      each = λ a b. (
        (λ c. let was = (so.each a b).0 c in (subst (λ (xs : List (ℕ × ℕ)). Contains xs (a, b)) (sym more) (Contains-append_left (take n pairs) (p ∷ []) (a, b) was.0), was.1)),
        (λ c. ⊎_elim
            (λ (old : Contains (take n pairs) (a, b)). (so.each a b).1 (old, c.1))
            (λ (now : p ≡ (a, b)). absurd (c.1 (subst (λ (q : ℕ × ℕ). IsImplied pairs q.0 q.1) now so_it)))
            (Contains-push_cases (take n pairs) p (a, b) (subst (λ (xs : List (ℕ × ℕ)). Contains xs (a, b)) more c.0))),
      );
    }

pub kept_done : (pairs left : List (ℕ × ℕ)) (n : ℕ) → length pairs ≤ n → KeptSoFar pairs n left → AreNotImplied pairs left
kept_done pairs left n all so a b =
    let same : take n pairs ≡ pairs = take_all n pairs all in (
      (λ c. let was = (so.each a b).0 c in (subst (λ (xs : List (ℕ × ℕ)). Contains xs (a, b)) same was.0, was.1)),
      (λ c. (so.each a b).1 (subst (λ (xs : List (ℕ × ℕ)). Contains xs (a, b)) (sym same) c.0, c.1)),
    )

-- ---- the joined ones before a place
abbrev Is : ℕ × ℕ → ℕ × ℕ → Type 0
Is p q = p ≡ q

pub join_none : (count : ℕ) (pairs : List (ℕ × ℕ)) (matrix : List Bool) (joined : List (ℕ × ℕ)) → joined ≡ [] → HasJoined count pairs matrix 0 0 joined
join_none count pairs matrix joined e = record {
  within = λ a b c. absurd (omega (arith, c.1, ap length e));
  all = λ a b hb s. absurd (⊎_elim (λ (l : a < 0). omega (arith, l)) (λ (g : (a ≡ 0) × (b < 0)). omega (arith, g.1)) s);
  once = λ i j d l h. absurd (omega (arith, h, ap length e));
}

module _ (count : ℕ) (pairs : List (ℕ × ℕ)) (matrix : List Bool) (row column : ℕ) (joined : List (ℕ × ℕ)) (inside : column < count) (so : HasJoined count pairs matrix row column joined) where
  later : (a b : ℕ) → StandsBefore row column a b → StandsBefore row (column + 1) a b
  later a b (inl l) = inl l
  later a b (inr g) = inr (g.0, omega (arith, g.1))

  earlier : (a b : ℕ) → StandsBefore row (column + 1) a b → StandsBefore row column a b ⊎ ((a ≡ row) × (b ≡ column))
  earlier a b (inl l) = inl (inl l)
  earlier a b (inr g) = ⊎_elim (λ (l : b < column). inl (inr (g.0, l))) (λ (h : column ≤ b). inr (g.0, omega (arith, g.1, h))) (cases_lt b column)

  not_here : StandsBefore row column row column → ⊥
  not_here (inl l) = omega (arith, l)
  not_here (inr g) = omega (arith, g.1)

  here : (a b : ℕ) → Is (row, column) (a, b) → (a ≡ row) × (b ≡ column)
  here a b e = (sym (ap (λ (q : ℕ × ℕ). q.0) e), sym (ap (λ (q : ℕ × ℕ). q.1) e))

  pub join_yes : (new : List (ℕ × ℕ)) → new ≡ joined ++ (row, column) ∷ [] → is_joined count pairs matrix row column ≡ true → HasJoined count pairs matrix row (column + 1) new
  join_yes new e holds = subst (HasJoined count pairs matrix row (column + 1)) (sym e) (record {
    within = λ a b c. ⊎_elim
        (λ (old : Contains joined (a, b)). let was = so.within a b old in (was.0, later a b was.1, was.2))
        (λ (now : Is (row, column) (a, b)).
        let same = here a b now in
        (omega (arith, same.1, inside), inr (same.0, omega (arith, same.1)), subst (λ (q : ℕ × ℕ). is_joined count pairs matrix q.0 q.1 ≡ true) now holds))
        (Contains-push_cases joined (row, column) (a, b) c);
    all = λ a b hb s is. ⊎_elim
        (λ (old : StandsBefore row column a b). Contains-append_left joined ((row, column) ∷ []) (a, b) (so.all a b hb old is))
        (λ (now : (a ≡ row) × (b ≡ column)).
        let same : Is (row, column) (a, b) = (λ i. (sym now.0 i, sym now.1 i)) in
        subst (Contains (joined ++ (row, column) ∷ [])) same (Contains-push joined (row, column)))
        (earlier a b s);
    once = all_pairs_push (λ x y. x ≢ y) joined (row, column) so.once (λ k d l same.
        let held = so.within row column (subst (Contains joined) same (Contains-get_or joined k d l)) in
        not_here held.1);
  })

  pub join_no : is_joined count pairs matrix row column ≡ false → HasJoined count pairs matrix row (column + 1) joined
  join_no fails = record {
    within = λ a b c. let was = so.within a b c in (was.0, later a b was.1, was.2);
    all = λ a b hb s is. ⊎_elim
        (λ (old : StandsBefore row column a b). so.all a b hb old is)
        (λ (now : (a ≡ row) × (b ≡ column)).
        let same : Is (a, b) (row, column) = (λ i. (now.0 i, now.1 i)) in
        absurd (not_both (is_joined count pairs matrix row column) (subst (λ (q : ℕ × ℕ). is_joined count pairs matrix q.0 q.1 ≡ true) same is) fails))
        (earlier a b s);
    once = so.once;
  }

pub join_row : (count : ℕ) (pairs : List (ℕ × ℕ)) (matrix : List Bool) (row : ℕ) (joined : List (ℕ × ℕ)) → HasJoined count pairs matrix row count joined → HasJoined count pairs matrix (row + 1) 0 joined
join_row count pairs matrix row joined so = record {
  within = λ a b c. let was = so.within a b c in (was.0, after a b was.1, was.2);
  all = λ a b hb s is. so.all a b hb (before a b hb s) is;
  once = so.once;
}
  where
    after : (a b : ℕ) → StandsBefore row count a b → StandsBefore (row + 1) 0 a b
    after a b (inl l) = inl (omega (arith, l))
    after a b (inr g) = inl (omega (arith, g.0))

    before : (a b : ℕ) → b < count → StandsBefore (row + 1) 0 a b → StandsBefore row count a b
    before a b hb (inl l) = ⊎_elim (λ (k : a < row). inl k) (λ (g : row ≤ a). inr (omega (arith, l, g), hb)) (cases_lt a row)
    before a b hb (inr g) = absurd (omega (arith, g.1))

module _ (count : ℕ) (pairs : List (ℕ × ℕ)) (below : AreBelow count pairs) (matrix : List Bool) (is : IsMatrix count pairs matrix) where
  not_true : (x : Bool) → not x ≡ true → x ≡ true → ⊥
  not_true true e f = let g : false ≡ true = e in cc
  not_true false e f = let g : false ≡ true = f in cc

  true_not : (x : Bool) → (x ≡ true → ⊥) → not x ≡ true
  true_not true h = absurd (h refl)
  true_not false h = refl

  told : (a b : ℕ) → a < count → b < count → is_joined count pairs matrix a b ≡ true → IsJoined pairs a b
  told a b ha hb e =
      let rest = and_second (not (eqb a b)) (at count matrix a b && not (is_pair pairs a b)) e in (
        (λ same. not_true (eqb a b) (and_first (not (eqb a b)) (at count matrix a b && not (is_pair pairs a b)) e) (eq-eqb a b same)),
        (is.each a b ha hb).0 (and_first (at count matrix a b) (not (is_pair pairs a b)) rest),
        (λ c. not_true (is_pair pairs a b) (and_second (at count matrix a b) (not (is_pair pairs a b)) rest) (in_pair pairs a b c)),
      )

  shown : (a b : ℕ) → a < count → b < count → IsJoined pairs a b → is_joined count pairs matrix a b ≡ true
  shown a b ha hb j = both_true (not (eqb a b)) (at count matrix a b && not (is_pair pairs a b)) (ap not (ne_eqb a b j.0))
      (both_true (at count matrix a b) (not (is_pair pairs a b)) ((is.each a b ha hb).1 j.1) (true_not (is_pair pairs a b) (λ e. j.2 (pair_in pairs a b e))))

  begins : (a b : ℕ) (xs : List ℕ) → a ≢ b → IsChain pairs a xs b → (a < count) × (b < count)
  begins a b [] ne h = absurd (ne h)
  begins a b (x ∷ xs) ne h = let l = pair_below count pairs below a x h.0 in (l.0, chain_below count pairs below x b xs l.1 h.1)

  pub join_done : (row : ℕ) (joined : List (ℕ × ℕ)) → row ≡ count → HasJoined count pairs matrix row 0 joined → AreJoined pairs joined
  join_done row joined last so = record {
    each = λ a b. (
      (λ c. let held = so.within a b c in told a b (first a b held.1) held.0 held.2),
      (λ j. let l = begins a b j.1.0 j.0 j.1.1 in so.all a b l.1 (inl (omega (arith, l.0, last))) (shown a b l.0 l.1 j)),
    );
    once = so.once;
  }
    where
      first : (a b : ℕ) → StandsBefore row 0 a b → a < count
      first a b (inl l) = omega (arith, l, last)
      first a b (inr g) = absurd (omega (arith, g.1))
