-- The pairs of a list of names, row after row.
use Rattle.std.proofs.Common.{◌≡◌, ◌↔◌, ℕ, ◌+◌, ◌<◌, ◌≤◌, Bool, true, false, if◌then◌else◌, List, [], ◌∷◌, ◌++◌, length, get_or, take, refl, sym, ap, ◌∙◌, subst, inl, inr, ⊎_elim, Ordering}
use Rattle.std.specs.declared.cmp.Ordering.TheVariants.{Less}
use Rattle.std.specs.List.{Contains, AllPairs}
use Rattle.std.specs.Ordering.{ordering_then}
use Rattle.std.proofs.lemmas.Bool.{false≢true}
use Rattle.std.proofs.lemmas.Cmp.{tied_itself}
use Rattle.std.proofs.lemmas.List.{append_assoc, append-nil, take_all}
use Rattle.trace_types.specs.Segments.{SegmentName}
use Rattle.trace_types.proofs.ListingLemmas.{name_total, Contains-nil}
use Rattle.trace_types.proofs.ElementLemmas.{Contains-more, Contains-before, Contains-now, before_place}
use Rattle.trace_types.proofs.ExactLemmas.{ListsExactly-same, ListsExactly-nil, ListsExactly-one, ListsExactly-append}
use Rattle.model_checks.specs.inner.Growing.{AppendsExactly}
use Rattle.trace_types.specs.Listing.{ListsExactly}
use Rattle.trace_types.specs.NameOrder.{name_cmp, pair_cmp}

abbrev pub Pair : Type 0
Pair = SegmentName × SegmentName

abbrev pub pair_of : SegmentName → SegmentName → Pair
pair_of a b = (a, b)

abbrev pairs_cmp : Pair → Pair → Ordering
pairs_cmp = pair_cmp name_cmp

-- the pair has Q, this first name and one of these second names
abbrev pub IsInRow : (SegmentName → SegmentName → Type 0) → SegmentName → List SegmentName → Pair → Type 0
IsInRow Q first seconds pair = (pair.0 ≡ first) × Q pair.0 pair.1 × Contains seconds pair.1

-- the pair has Q and one of these first names
abbrev pub IsInRows : (SegmentName → SegmentName → Type 0) → List SegmentName → Pair → Type 0
IsInRows Q firsts pair = Q pair.0 pair.1 × Contains firsts pair.0

-- of two pairs that differ first in a name, the one with the lesser there is less
first_less : (a b : Pair) → name_cmp a.0 b.0 ≡ Less → pairs_cmp a b ≡ Less
first_less a b e = ap (λ (o : Ordering). ordering_then o (name_cmp a.1 b.1)) e

second_less : (a b : Pair) → a.0 ≡ b.0 → name_cmp a.1 b.1 ≡ Less → pairs_cmp a b ≡ Less
second_less a b e l =
    let t = subst (λ (v : SegmentName). name_cmp a.0 v ≡ name_cmp a.0 a.0) e refl ∙ tied_itself name_total a.0 in
    ap (λ (o : Ordering). ordering_then o (name_cmp a.1 b.1)) t ∙ l

module _ (Q : SegmentName → SegmentName → Type 0) (names : List SegmentName) (rising : AllPairs (λ (x y : SegmentName). name_cmp x y ≡ Less) names) where
  -- ---- within a row
  pub row_begun : (first : SegmentName) (old : List Pair) → AppendsExactly pairs_cmp (IsInRow Q first []) old old
  row_begun first old = record {
    row = [];
    joined = sym (append-nil old);
    lists = ListsExactly-nil pairs_cmp (IsInRow Q first []) (λ p r. Contains-nil p.1 r.2);
  }

  pub row_more : (first : SegmentName) (j : ℕ) (second : SegmentName) → j < length names → second ≡ get_or names j second → (old now new : List Pair) (wanted : Bool) → (wanted ≡ true) ↔ Q first second
      → new ≡ (if wanted then now ++ pair_of first second ∷ [] else now) → AppendsExactly pairs_cmp (IsInRow Q first (take j names)) old now → AppendsExactly pairs_cmp (IsInRow Q first (take (j + 1) names)) old new
  row_more first j second lt at old now new false told is so_far = record {
    row = so_far.row;
    joined = is ∙ so_far.joined;
    lists = ListsExactly-same pairs_cmp (IsInRow Q first (take j names)) (IsInRow Q first (take (j + 1) names)) (λ p. (
      (λ r. (r.0, r.1, Contains-before names j second lt p.1 r.2)),
      (λ r. (r.0, r.1, ⊎_elim (λ (c : Contains (take j names) p.1). c) (λ (e : second ≡ p.1). absurd (false≢true (told.1 (subst (λ v. Q first v) (sym e) (subst (λ v. Q v p.1) r.0 r.1))))) (Contains-more names j second lt at p.1 r.2))),
    )) so_far.row so_far.lists;
  }
  row_more first j second lt at old now new true told is so_far = record {
    row = so_far.row ++ pair_of first second ∷ [];
    joined = is ∙ ap (λ l. l ++ pair_of first second ∷ []) so_far.joined ∙ append_assoc old so_far.row (pair_of first second ∷ []);
    lists = ListsExactly-append pairs_cmp (IsInRow Q first (take j names)) (λ p. pair_of first second ≡ p) (IsInRow Q first (take (j + 1) names))
        (λ x y p e. subst (λ v. pairs_cmp x v ≡ Less) e (second_less x (pair_of first second) p.0 (before_place (λ (u v : SegmentName). name_cmp u v ≡ Less) names rising j second lt at x.1 p.2)))
        (λ p. (
          (λ r. ⊎_elim (λ (c : Contains (take j names) p.1). inl (r.0, r.1, c)) (λ (e : second ≡ p.1). inr (λ k. pair_of (sym r.0 k) (e k))) (Contains-more names j second lt at p.1 r.2)),
          (λ s. ⊎_elim
              (λ (r : IsInRow Q first (take j names) p). (r.0, r.1, Contains-before names j second lt p.1 r.2))
              (λ (e : pair_of first second ≡ p).
              let ef : first ≡ p.0 = ap (λ (v : Pair). v.0) e in
              let es : second ≡ p.1 = ap (λ (v : Pair). v.1) e in
              (sym ef, subst (λ (v : Pair). Q v.0 v.1) e (told.0 refl), Contains-now names j second lt at p.1 es))
              s),
        ))
        so_far.row (pair_of first second ∷ []) so_far.lists (ListsExactly-one pairs_cmp (pair_of first second));
  }

  pub row_done : ((a b : SegmentName) → Q a b → Contains names b) → (first : SegmentName) (j : ℕ) → length names ≤ j → (old new : List Pair) → AppendsExactly pairs_cmp (IsInRow Q first (take j names)) old new → AppendsExactly pairs_cmp (λ (p : Pair). (p.0 ≡ first) × Q p.0 p.1) old new
  row_done known first j all old new so_far = record {
    row = so_far.row;
    joined = so_far.joined;
    lists = ListsExactly-same pairs_cmp (IsInRow Q first (take j names)) (λ (p : Pair). (p.0 ≡ first) × Q p.0 p.1) (λ p. (
      (λ r. (r.0, r.1)),
      (λ r. (r.0, r.1, subst (λ l. Contains l p.1) (sym (take_all j names all)) (known p.0 p.1 r.1))),
    )) so_far.row so_far.lists;
  }

  -- ---- row after row
  pub rows_begun : ListsExactly pairs_cmp (IsInRows Q []) []
  rows_begun = ListsExactly-nil pairs_cmp (IsInRows Q []) (λ p r. Contains-nil p.0 r.1)

  pub rows_more : (i : ℕ) (first : SegmentName) → i < length names → first ≡ get_or names i first → (now new : List Pair) → ListsExactly pairs_cmp (IsInRows Q (take i names)) now → AppendsExactly pairs_cmp (λ (p : Pair). (p.0 ≡ first) × Q p.0 p.1) now new → ListsExactly pairs_cmp (IsInRows Q (take (i + 1) names)) new
  rows_more i first lt at now new so_far row =
      subst (ListsExactly pairs_cmp (IsInRows Q (take (i + 1) names))) (sym row.joined)
      (ListsExactly-append pairs_cmp (IsInRows Q (take i names)) (λ (p : Pair). (p.0 ≡ first) × Q p.0 p.1) (IsInRows Q (take (i + 1) names))
      (λ x y p q. first_less x y (subst (λ v. name_cmp x.0 v ≡ Less) (sym q.0) (before_place (λ (u v : SegmentName). name_cmp u v ≡ Less) names rising i first lt at x.0 p.1)))
      (λ p. (
        (λ r. ⊎_elim (λ (c : Contains (take i names) p.0). inl (r.0, c)) (λ (e : first ≡ p.0). inr (sym e, r.0)) (Contains-more names i first lt at p.0 r.1)),
        (λ s. ⊎_elim (λ (r : IsInRows Q (take i names) p). (r.0, Contains-before names i first lt p.0 r.1)) (λ (r : (p.0 ≡ first) × Q p.0 p.1). (r.1, Contains-now names i first lt at p.0 (sym r.0))) s),
      ))
      now row.row so_far row.lists)

  pub rows_done : ((a b : SegmentName) → Q a b → Contains names a) → (i : ℕ) → length names ≤ i → (new : List Pair) → ListsExactly pairs_cmp (IsInRows Q (take i names)) new → ListsExactly pairs_cmp (λ (p : Pair). Q p.0 p.1) new
  rows_done known i all new so_far = ListsExactly-same pairs_cmp (IsInRows Q (take i names)) (λ (p : Pair). Q p.0 p.1) (λ p. (
    (λ r. r.0),
    (λ q. (q, subst (λ l. Contains l p.0) (sym (take_all i names all)) (known p.0 p.1 q))),
  )) new so_far
