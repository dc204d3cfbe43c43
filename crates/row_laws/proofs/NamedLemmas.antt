-- What rows name, from the places that they have.
use Rattle.std.proofs.Common.{◌≡◌, ◌≢◌, ◌↔◌, ℕ, ◌<◌, Some, List, [], ◌∷◌, length, slice_get, map, Contains, AllPairs, refl, sym, ap, ◌∙◌, subst, arith}
use Rattle.std.specs.Option.{option_map}
use Rattle.std.proofs.lemmas.Option.{get_or_from_slice_get, slice_get-get_or, slice_get-map}
use Rattle.trace_types.proofs.ElementLemmas.{Contains-map, at_index, from_map, one_item, one_place}
use Rattle.trace_types.proofs.ListingLemmas.{Contains-cons, cons_here}
use Rattle.trace_types.proofs.MatchLemmas.{flip_zip, partner_in}
use Rattle.trace_types.proofs.ZipLemmas.{zip_at, zip_length}
use Rattle.evidence_rules.specs.EvidenceRows.{places_of}
use Rattle.evidence_rules.specs.declared.pair_row.PairRow.{PairRow}
use Rattle.row_laws.specs.NamedRows.{NameExactly, NameInTurn, NamesTwo}
use Rattle.row_laws.proofs.PlaceLemmas.{HavePlaces}

-- where an element stands
pub at : {X : Type 0} (xs : List X) (x : X) (c : Contains xs x) → slice_get xs c.0 ≡ Some x
at xs x c = slice_get-get_or xs c.0 x c.1 ∙ ap Some c.2

module _ {X F : Type 0} (xs : List X) where
  -- rows of places below the count name something
  pub named : (rows : List (PairRow F)) → ((r : PairRow F) → Contains rows r → (r.first < length xs) × (r.second < length xs)) → (pairs : List (X × X)) × NameInTurn xs rows pairs
  named [] below = ([], tt)
  named (row ∷ rows) below =
      let h = below row (cons_here row rows) in
      let a = at_index xs row.first h.0 in
      let b = at_index xs row.second h.1 in
      let rest = named rows (λ r c. below r (Contains-cons row rows r c)) in
      ((a.0, b.0) ∷ rest.0, ((a.1, b.1), rest.1))

  -- and one thing alone
  pub named_one : (rows : List (PairRow F)) (pairs others : List (X × X)) → NameInTurn xs rows pairs → NameInTurn xs rows others → pairs ≡ others
  named_one [] [] [] h k = refl
  named_one [] [] (q ∷ others) h k = absurd k
  named_one [] (p ∷ pairs) others h k = absurd h
  named_one (row ∷ rows) [] others h k = absurd h
  named_one (row ∷ rows) (p ∷ pairs) [] h k = absurd k
  named_one (row ∷ rows) (p ∷ pairs) (q ∷ others) h k =
      let first = one_item xs row.first p.0 q.0 h.0.0 k.0.0 in
      let second = one_item xs row.second p.1 q.1 h.0.1 k.0.1 in
      let same : p ≡ q = λ i. (first i, second i) in
      ap (λ (z : X × X). z ∷ pairs) same ∙ ap (λ (l : List (X × X)). q ∷ l) (named_one rows pairs others h.1 k.1)

  -- the pair of the row of these places
  pub pair_of : (rows : List (PairRow F)) (pairs : List (X × X)) → NameInTurn xs rows pairs → (i j : ℕ) → Contains (map places_of rows) (i, j)
      → (p : X × X) × Contains pairs p × (slice_get xs i ≡ Some p.0) × (slice_get xs j ≡ Some p.1)
  pair_of rows pairs turn i j c =
      let r = from_map places_of rows (i, j) c in
      let p = partner_in (NamesTwo xs) rows pairs turn r.0 r.1 in
      (p.0, p.1, subst (λ (q : ℕ × ℕ). slice_get xs q.0 ≡ Some p.0.0) r.2 p.2.0, subst (λ (q : ℕ × ℕ). slice_get xs q.1 ≡ Some p.0.1) r.2 p.2.1)

  -- the places of the row of this pair
  pub places_at : (rows : List (PairRow F)) (pairs : List (X × X)) → NameInTurn xs rows pairs → (p : X × X) → Contains pairs p
      → (i : ℕ) × (j : ℕ) × Contains (map places_of rows) (i, j) × (slice_get xs i ≡ Some p.0) × (slice_get xs j ≡ Some p.1)
  places_at rows pairs turn p c =
      let r = partner_in (λ q row. NamesTwo xs row q) pairs rows (flip_zip (NamesTwo xs) rows pairs turn) p c in
      (r.0.first, r.0.second, Contains-map places_of rows r.0 (r.0.first, r.0.second) r.1 refl, r.2.0, r.2.1)

  module _ (differ : AllPairs (λ x y. x ≢ y) xs) where
    pairs_differ : (rows : List (PairRow F)) (pairs : List (X × X)) → NameInTurn xs rows pairs → AllPairs (λ p q. p ≢ q) (map places_of rows) → AllPairs (λ p q. p ≢ q) pairs
    pairs_differ rows pairs turn apart i j d lt within e =
        let size = zip_length (NamesTwo xs) rows pairs turn in
        let r = zip_at (NamesTwo xs) rows pairs i turn (omega (arith, lt, within, size)) in
        let s = zip_at (NamesTwo xs) rows pairs j turn (omega (arith, within, size)) in
        let same : r.1 ≡ s.1 = sym (get_or_from_slice_get pairs i r.1 d r.3) ∙ e ∙ get_or_from_slice_get pairs j s.1 d s.3 in
        let first = one_place xs differ r.0.first s.0.first s.1.0 (r.4.0 ∙ ap (λ (p : X × X). Some p.0) same) s.4.0 in
        let second = one_place xs differ r.0.second s.0.second s.1.1 (r.4.1 ∙ ap (λ (p : X × X). Some p.1) same) s.4.1 in
        let places : places_of r.0 ≡ places_of s.0 = λ k. (first k, second k) in
        let index = one_place (map places_of rows) apart i j (places_of s.0)
        (slice_get-map places_of rows i ∙ ap (option_map places_of) r.2 ∙ ap Some places)
        (slice_get-map places_of rows j ∙ ap (option_map places_of) s.2) in
        omega (arith, lt, index)

    module _ (Q : ℕ × ℕ → Type 0) (P : X × X → Type 0)
        (below : (p : ℕ × ℕ) → Q p → (p.0 < length xs) × (p.1 < length xs))
        (tells : (i j : ℕ) (a b : X) → slice_get xs i ≡ Some a → slice_get xs j ≡ Some b → Q (i, j) ↔ P (a, b))
        (known : (p : X × X) → P p → Contains xs p.0 × Contains xs p.1) where
      pub name_exactly : (rows : List (PairRow F)) → HavePlaces Q rows → NameExactly xs P rows
      name_exactly rows have =
          let n = named rows (λ r c. below (places_of r) ((have.exactly (places_of r)).0 (Contains-map places_of rows r (places_of r) c refl))) in
          record {
            pairs = n.0;
            named = n.1;
            differ = pairs_differ rows n.0 n.1 have.differ;
            exactly = λ p. (
              (λ c. let r = places_at rows n.0 n.1 p c in (tells r.0 r.1 p.0 p.1 r.3 r.4).0 ((have.exactly (r.0, r.1)).0 r.2)),
              (λ is.
                  let k = known p is in
                  let q = (tells k.0.0 k.1.0 p.0 p.1 (at xs p.0 k.0) (at xs p.1 k.1)).1 is in
                  let r = pair_of rows n.0 n.1 k.0.0 k.1.0 ((have.exactly (k.0.0, k.1.0)).1 q) in
                  let first = one_item xs k.0.0 r.0.0 p.0 r.2 (at xs p.0 k.0) in
                  let second = one_item xs k.1.0 r.0.1 p.1 r.3 (at xs p.1 k.1) in
                  let same : r.0 ≡ p = λ i. (first i, second i) in
                  subst (Contains n.0) same r.1),
            );
          }
