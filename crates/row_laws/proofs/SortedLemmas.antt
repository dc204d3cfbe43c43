-- The places of rows that are sorted by their support.
use Rattle.std.proofs.Common.{◌≡◌, ◌≢◌, ℕ, ◌<◌, Some, List, [], ◌∷◌, length, get_or, slice_get, map, Contains, AllPairs, refl, sym, ap, ◌∙◌, subst, arith}
use Rattle.std.specs.Cmp.{IsTotalOrder}
use Rattle.std.specs.List.{AllZip}
use Rattle.std.specs.Option.{option_map}
use Rattle.std.specs.declared.cmp.Ordering.TheVariants.{Less}
use Rattle.std.proofs.lemmas.Cmp.{back_total, nat_cmp_total, on_total, then_total}
use Rattle.std.proofs.lemmas.List.{length-map, get_or-map}
use Rattle.std.proofs.lemmas.Option.{get_or_from_slice_get, slice_get-get_or, slice_get-map, slice_get_within}
use Rattle.trace_types.proofs.ComparingLemmas.{less_differs}
use Rattle.trace_types.proofs.ElementLemmas.{Contains-from_get, Contains-map, from_map, one_item, one_place}
use Rattle.trace_types.proofs.MatchLemmas.{flip_zip, partner_in}
use Rattle.trace_types.proofs.ZipLemmas.{zip_at}
use Rattle.evidence_rules.specs.EvidenceRows.{AreBySupport, by_support, places_of}
use Rattle.evidence_rules.specs.declared.pair_row.PairRow.{PairRow}
use Rattle.row_laws.proofs.PlaceLemmas.{HavePlaces}

support_total : IsTotalOrder by_support
support_total = then_total (back_total (on_total (λ (x : ℕ × ℕ). x.0) nat_cmp_total)) (on_total (λ (x : ℕ × ℕ). x.1) nat_cmp_total)

module _ {F : Type 0} (rows : List (PairRow F)) where
  abbrev IsAt : PairRow F → ℕ × ℕ → Type 0
  IsAt row x = slice_get rows x.1 ≡ Some row

  picked_from : (sorted : List (PairRow F)) (order : List (ℕ × ℕ)) → map Some sorted ≡ map (λ x. slice_get rows x.1) order → AllZip IsAt sorted order
  picked_from [] [] e = tt
  picked_from [] (x ∷ order) e = absurd (cc e)
  picked_from (row ∷ sorted) [] e = absurd (cc e)
  picked_from (row ∷ sorted) (x ∷ order) e =
      let head : Some row ≡ slice_get rows x.1 = cc in
      let tail : map Some sorted ≡ map (λ y. slice_get rows y.1) order = cc in
      (sym head, picked_from sorted order tail)

  module _ (traces : F → ℕ) (sorted : List (PairRow F)) (are : AreBySupport traces rows sorted) where
    picked : AllZip IsAt sorted are.order
    picked = picked_from sorted are.order are.are

    pub sorted_in : (r : PairRow F) → Contains sorted r → Contains rows r
    sorted_in r c = let x = partner_in IsAt sorted are.order picked r c in Contains-from_get rows x.0.1 r x.2

    in_sorted : (r : PairRow F) → Contains rows r → Contains sorted r
    in_sorted r c =
        let at : slice_get rows c.0 ≡ Some r = slice_get-get_or rows c.0 r c.1 ∙ ap Some c.2 in
        let listed = (are.lists.exactly (traces r.figures, c.0)).1 (r, at, refl) in
        let s = partner_in (λ x row. IsAt row x) are.order sorted (flip_zip IsAt sorted are.order picked) (traces r.figures, c.0) listed in
        subst (Contains sorted) (one_item rows c.0 s.0 r s.2 at) s.1

    -- two rows of one place stand at one index
    one_index : AllPairs (λ p q. p ≢ q) (map places_of rows) → (r s : PairRow F) (x y : ℕ × ℕ) → IsAt r x → IsAt s y → Contains are.order x → Contains are.order y → places_of r ≡ places_of s → x ≡ y
    one_index differ r s x y rx sy cx cy e =
        let index : x.1 ≡ y.1 = one_place (map places_of rows) differ x.1 y.1 (places_of s) (at r x rx ∙ ap Some e) (at s y sy) in
        let same : r ≡ s = one_item rows y.1 r s (subst (λ (i : ℕ). slice_get rows i ≡ Some r) index rx) sy in
        let tx = (are.lists.exactly x).0 cx in
        let ty = (are.lists.exactly y).0 cy in
        let supported : traces r.figures ≡ x.0 = ap (λ (row : PairRow F). traces row.figures) (one_item rows x.1 r tx.0 rx tx.1) ∙ tx.2 in
        let alike : traces s.figures ≡ y.0 = ap (λ (row : PairRow F). traces row.figures) (one_item rows y.1 s ty.0 sy ty.1) ∙ ty.2 in
        let support : x.0 ≡ y.0 = sym supported ∙ ap (λ (row : PairRow F). traces row.figures) same ∙ alike in
        λ i. (support i, index i)
      where
        at : (r : PairRow F) (x : ℕ × ℕ) → IsAt r x → slice_get (map places_of rows) x.1 ≡ Some (places_of r)
        at r x rx = slice_get-map places_of rows x.1 ∙ ap (option_map places_of) rx

    sorted_differ : AllPairs (λ p q. p ≢ q) (map places_of rows) → AllPairs (λ p q. p ≢ q) (map places_of sorted)
    sorted_differ differ i j d lt within e =
        let hj : j < length sorted = omega (arith, length-map sorted places_of) in
        let r = zip_at IsAt sorted are.order i picked (omega (arith, lt)) in
        let s = zip_at IsAt sorted are.order j picked hj in
        let er : get_or (map places_of sorted) i d ≡ places_of r.0 = get_or-map places_of sorted i r.0 d (omega (arith, lt)) ∙ ap places_of (get_or_from_slice_get sorted i r.0 r.0 r.2) in
        let es : get_or (map places_of sorted) j d ≡ places_of s.0 = get_or-map places_of sorted j s.0 d hj ∙ ap places_of (get_or_from_slice_get sorted j s.0 s.0 s.2) in
        let same = one_index differ r.0 s.0 r.1 s.1 r.4 s.4 (Contains-from_get are.order i r.1 r.3) (Contains-from_get are.order j s.1 s.3) (sym er ∙ e ∙ es) in
        let rises = are.lists.rising i j r.1 lt (slice_get_within are.order j s.1 s.3) in
        let ei = get_or_from_slice_get are.order i r.1 r.1 r.3 in
        let ej = get_or_from_slice_get are.order j s.1 r.1 s.3 in
        less_differs by_support support_total r.1 s.1 (subst (λ (y : ℕ × ℕ). by_support r.1 y ≡ Less) ej (subst (λ (x : ℕ × ℕ). by_support x (get_or are.order j r.1) ≡ Less) ei rises)) same

    pub sorted_places : (Q : ℕ × ℕ → Type 0) → HavePlaces Q rows → HavePlaces Q sorted
    sorted_places Q have = record {
      differ = sorted_differ have.differ;
      exactly = λ p. (
        (λ c. let r = from_map places_of sorted p c in (have.exactly p).0 (Contains-map places_of rows r.0 p (sorted_in r.0 r.1) r.2)),
        (λ q. let r = from_map places_of rows p ((have.exactly p).1 q) in Contains-map places_of sorted r.0 p (in_sorted r.0 r.1) r.2),
      );
    }
