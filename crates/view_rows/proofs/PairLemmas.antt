-- The pairs of a list of texts, row after row.
use Rattle.std.proofs.Common.{◌≡◌, ◌↔◌, ℕ, ◌+◌, ◌<◌, ◌≤◌, Bool, true, false, if◌then◌else◌, List, [], ◌∷◌, ◌++◌, length, get_or, take, refl, sym, ap, ◌∙◌, subst, inl, inr, ⊎_elim, Ordering}
use Rattle.std.specs.declared.cmp.Ordering.TheVariants.{Less}
use Rattle.std.specs.Cmp.{IsTotalOrder}
use Rattle.std.specs.List.{Contains, AllPairs}
use Rattle.std.specs.Ordering.{ordering_then}
use Rattle.std.proofs.lemmas.Bool.{false≢true}
use Rattle.std.proofs.lemmas.Cmp.{tied_itself}
use Rattle.std.proofs.lemmas.List.{append_assoc, append-nil, take_all}
use Rattle.trace_types.proofs.ListingLemmas.{Contains-nil}
use Rattle.trace_types.proofs.ElementLemmas.{Contains-more, Contains-before, Contains-now, before_place}
use Rattle.trace_types.proofs.ExactLemmas.{ListsExactly-same, ListsExactly-nil, ListsExactly-one, ListsExactly-append}
use Rattle.view_rows.specs.inner.Growing.{AppendsExactly}
use Rattle.trace_types.specs.Listing.{ListsExactly}
use Rattle.trace_types.specs.NameOrder.{pair_cmp}

-- the pair has Q, this first text and one of these second texts
abbrev pub IsInRow : {X : Type 0} → (X → X → Type 0) → X → List X → X × X → Type 0
IsInRow Q first seconds pair = (pair.0 ≡ first) × Q pair.0 pair.1 × Contains seconds pair.1

-- the pair has Q and one of these first texts
abbrev pub IsInRows : {X : Type 0} → (X → X → Type 0) → List X → X × X → Type 0
IsInRows Q firsts pair = Q pair.0 pair.1 × Contains firsts pair.0

-- of two pairs that differ first in a text, the one with the lesser there is less
first_less : {X : Type 0} (cmp : X → X → Ordering) (a b : X × X) → cmp a.0 b.0 ≡ Less → pair_cmp cmp a b ≡ Less
first_less cmp a b e = ap (λ (o : Ordering). ordering_then o (cmp a.1 b.1)) e

second_less : {X : Type 0} (cmp : X → X → Ordering) → IsTotalOrder cmp → (a b : X × X) → a.0 ≡ b.0 → cmp a.1 b.1 ≡ Less → pair_cmp cmp a b ≡ Less
second_less {X} cmp total a b e l =
    let t = subst (λ (v : X). cmp a.0 v ≡ cmp a.0 a.0) e refl ∙ tied_itself total a.0 in
    ap (λ (o : Ordering). ordering_then o (cmp a.1 b.1)) t ∙ l

module _ {X : Type 0} (cmp : X → X → Ordering) (total : IsTotalOrder cmp) (Q : X → X → Type 0) (names : List X) (rising : AllPairs (λ (x y : X). cmp x y ≡ Less) names) where
  -- ---- within a row
  pub row_begun : (first : X) (old : List (X × X)) → AppendsExactly (pair_cmp cmp) (IsInRow Q first []) old old
  row_begun first old = record {
    row = [];
    joined = sym (append-nil old);
    lists = ListsExactly-nil (pair_cmp cmp) (IsInRow Q first []) (λ p r. Contains-nil p.1 r.2);
  }

  pub row_more : (first : X) (j : ℕ) (second : X) → j < length names → second ≡ get_or names j second → (old now new : List (X × X)) (wanted : Bool) → (wanted ≡ true) ↔ Q first second
      → new ≡ (if wanted then now ++ (first, second) ∷ [] else now) → AppendsExactly (pair_cmp cmp) (IsInRow Q first (take j names)) old now → AppendsExactly (pair_cmp cmp) (IsInRow Q first (take (j + 1) names)) old new
  row_more first j second lt at old now new false told is so_far = record {
    row = so_far.row;
    joined = is ∙ so_far.joined;
    lists = ListsExactly-same (pair_cmp cmp) (IsInRow Q first (take j names)) (IsInRow Q first (take (j + 1) names)) (λ p. (
      (λ r. (r.0, r.1, Contains-before names j second lt p.1 r.2)),
      (λ r. (r.0, r.1, ⊎_elim (λ (c : Contains (take j names) p.1). c) (λ (e : second ≡ p.1). absurd (false≢true (told.1 (subst (λ v. Q first v) (sym e) (subst (λ v. Q v p.1) r.0 r.1))))) (Contains-more names j second lt at p.1 r.2))),
    )) so_far.row so_far.lists;
  }
  row_more first j second lt at old now new true told is so_far = record {
    row = so_far.row ++ (first, second) ∷ [];
    joined = is ∙ ap (λ l. l ++ (first, second) ∷ []) so_far.joined ∙ append_assoc old so_far.row ((first, second) ∷ []);
    lists = ListsExactly-append (pair_cmp cmp) (IsInRow Q first (take j names)) (λ p. (first, second) ≡ p) (IsInRow Q first (take (j + 1) names))
        (λ x y p e. subst (λ v. (pair_cmp cmp) x v ≡ Less) e (second_less cmp total x ((first, second)) p.0 (before_place (λ (u v : X). cmp u v ≡ Less) names rising j second lt at x.1 p.2)))
        (λ p. (
          (λ r. ⊎_elim (λ (c : Contains (take j names) p.1). inl (r.0, r.1, c)) (λ (e : second ≡ p.1). inr (λ k. (sym r.0 k, e k))) (Contains-more names j second lt at p.1 r.2)),
          (λ s. ⊎_elim
              (λ (r : IsInRow Q first (take j names) p). (r.0, r.1, Contains-before names j second lt p.1 r.2))
              (λ (e : (first, second) ≡ p).
              let ef : first ≡ p.0 = ap (λ (v : X × X). v.0) e in
              let es : second ≡ p.1 = ap (λ (v : X × X). v.1) e in
              (sym ef, subst (λ (v : X × X). Q v.0 v.1) e (told.0 refl), Contains-now names j second lt at p.1 es))
              s),
        ))
        so_far.row ((first, second) ∷ []) so_far.lists (ListsExactly-one (pair_cmp cmp) ((first, second)));
  }

  pub row_done : ((a b : X) → Q a b → Contains names b) → (first : X) (j : ℕ) → length names ≤ j → (old new : List (X × X)) → AppendsExactly (pair_cmp cmp) (IsInRow Q first (take j names)) old new → AppendsExactly (pair_cmp cmp) (λ (p : X × X). (p.0 ≡ first) × Q p.0 p.1) old new
  row_done known first j all old new so_far = record {
    row = so_far.row;
    joined = so_far.joined;
    lists = ListsExactly-same (pair_cmp cmp) (IsInRow Q first (take j names)) (λ (p : X × X). (p.0 ≡ first) × Q p.0 p.1) (λ p. (
      (λ r. (r.0, r.1)),
      (λ r. (r.0, r.1, subst (λ l. Contains l p.1) (sym (take_all j names all)) (known p.0 p.1 r.1))),
    )) so_far.row so_far.lists;
  }

  -- ---- row after row
  pub rows_begun : ListsExactly (pair_cmp cmp) (IsInRows Q []) []
  rows_begun = ListsExactly-nil (pair_cmp cmp) (IsInRows Q []) (λ p r. Contains-nil p.0 r.1)

  pub rows_more : (i : ℕ) (first : X) → i < length names → first ≡ get_or names i first → (now new : List (X × X)) → ListsExactly (pair_cmp cmp) (IsInRows Q (take i names)) now → AppendsExactly (pair_cmp cmp) (λ (p : X × X). (p.0 ≡ first) × Q p.0 p.1) now new → ListsExactly (pair_cmp cmp) (IsInRows Q (take (i + 1) names)) new
  rows_more i first lt at now new so_far row =
      subst (ListsExactly (pair_cmp cmp) (IsInRows Q (take (i + 1) names))) (sym row.joined)
      (ListsExactly-append (pair_cmp cmp) (IsInRows Q (take i names)) (λ (p : X × X). (p.0 ≡ first) × Q p.0 p.1) (IsInRows Q (take (i + 1) names))
      (λ x y p q. first_less cmp x y (subst (λ v. cmp x.0 v ≡ Less) (sym q.0) (before_place (λ (u v : X). cmp u v ≡ Less) names rising i first lt at x.0 p.1)))
      (λ p. (
        (λ r. ⊎_elim (λ (c : Contains (take i names) p.0). inl (r.0, c)) (λ (e : first ≡ p.0). inr (sym e, r.0)) (Contains-more names i first lt at p.0 r.1)),
        (λ s. ⊎_elim (λ (r : IsInRows Q (take i names) p). (r.0, Contains-before names i first lt p.0 r.1)) (λ (r : (p.0 ≡ first) × Q p.0 p.1). (r.1, Contains-now names i first lt at p.0 (sym r.0))) s),
      ))
      now row.row so_far row.lists)

  pub rows_done : ((a b : X) → Q a b → Contains names a) → (i : ℕ) → length names ≤ i → (new : List (X × X)) → ListsExactly (pair_cmp cmp) (IsInRows Q (take i names)) new → ListsExactly (pair_cmp cmp) (λ (p : X × X). Q p.0 p.1) new
  rows_done known i all new so_far = ListsExactly-same (pair_cmp cmp) (IsInRows Q (take i names)) (λ (p : X × X). Q p.0 p.1) (λ p. (
    (λ r. r.0),
    (λ q. (q, subst (λ l. Contains l p.0) (sym (take_all i names all)) (known p.0 p.1 q))),
  )) new so_far
