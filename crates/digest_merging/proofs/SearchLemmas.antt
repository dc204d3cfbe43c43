-- What a search by halves finds in rows that rise.
use Rattle.std.proofs.Common.{◌≡◌, ℕ, zero, suc, ◌<◌, ◌≤◌, List, [], ◌∷◌, length, map, get_or, refl, sym, ap, ◌∙◌, subst, inl, inr, arith, Ordering, Some}
use Rattle.std.specs.Prelude.{Result, Ok, Err, slice_get}
use Rattle.std.specs.declared.cmp.Ordering.TheVariants.{Less, Equal, Greater}
use Rattle.std.specs.List.Sorted.{IsBinarySearchResult, IsSearchInRange}
use Rattle.std.specs.Ordering.{ordering_index}
use Rattle.std.specs.Result.{result_ok}
use Rattle.std.proofs.lemmas.Bool.{cases_lt}
use Rattle.std.proofs.lemmas.Cmp.{tied_itself}
use Rattle.std.proofs.lemmas.List.{get_or-map, length-map}
use Rattle.digest_facts.specs.Digests.{Rises, TellsApart}
use Rattle.digest_merging.specs.inner.MergedRows.{IsPlaceIn}

module _ {X : Type 0} (cmp : X → X → Ordering) (o : TellsApart cmp) where
  -- of two elements that rise the second compares no lower
  compared : (a b x : X) → cmp a b ≡ Less → ordering_index (cmp a x) ≤ ordering_index (cmp b x)
  compared a b x less = by (cmp b x) refl
    where
      by : (c : Ordering) → cmp b x ≡ c → ordering_index (cmp a x) ≤ ordering_index c
      by Less e = rw (o.total.trans a b x less e) (omega arith)
      by Equal e = let same : b ≡ x = o.one b x e in rw (subst (λ (v : X). cmp a v ≡ Less) same less) (omega arith)
      by Greater e = most (cmp a x)
        where
          most : (c : Ordering) → ordering_index c ≤ ordering_index Greater
          most Less = omega arith
          most Equal = omega arith
          most Greater = omega arith

module _ {X L : Type 0} (cmp : X → X → Ordering) (o : TellsApart cmp) where
  key : X × L → X
  key r = r.0

  -- the row at a place that compares as equal
  found : (rows : List (X × L)) (k : ℕ) (x : X) → k < length rows → ((d : X × L) → cmp (get_or rows k d).0 x ≡ Equal) → slice_get (map (λ (r : X × L). r.0) rows) k ≡ Some x
  found [] k x lt e = absurd (omega arith)
  found (r ∷ rs) zero x lt e = ap Some (o.one r.0 x (e r))
  found (r ∷ rs) (suc k) x lt e = found rs k x (omega arith) e

  same_index : (rows : List (X × L)) (x : X) (i j : ℕ) (d : X × L) → i ≡ j → ordering_index (cmp (get_or rows i d).0 x) ≤ ordering_index (cmp (get_or rows j d).0 x)
  same_index rows x i j d e = rw e (omega arith)

  rising_rows : (rows : List (X × L)) (i j : ℕ) (d : X × L) → Rises cmp (map (λ (r : X × L). r.0) rows) → i < j → j < length rows → cmp (get_or rows i d).0 (get_or rows j d).0 ≡ Less
  rising_rows rows i j d up lt within =
      let key : X × L → X = λ r. r.0 in
      let m : length (map key rows) ≡ length rows = length-map rows key in
      subst (λ (v : X). cmp v (get_or rows j d).0 ≡ Less) (get_or-map key rows i d d.0 (omega arith)) (subst (λ (v : X). cmp (get_or (map key rows) i d.0) v ≡ Less) (get_or-map key rows j d d.0 within) (up i j d.0 lt (omega (arith, m))))

  pub searched : (rows : List (X × L)) (x : X) (r : Result ℕ ℕ) → IsSearchInRange r (length rows) → IsBinarySearchResult (λ (row : X × L). cmp row.0 x) rows r → Rises cmp (map (λ (r : X × L). r.0) rows) → IsPlaceIn (map (λ (r : X × L). r.0) rows) x (result_ok r)
  searched rows x (Ok k) within equal up = found rows k x within equal
  searched rows x (Err k) within parted up =
      let key : X × L → X = λ r. r.0 in
      let rise : (i j : ℕ) (d : X × L) → i ≤ j → j < length rows → ordering_index (cmp (get_or rows i d).0 x) ≤ ordering_index (cmp (get_or rows j d).0 x) =
      λ i j d le l. elim (cases_lt i j) [
        | inl lt ↦ compared cmp o (get_or rows i d).0 (get_or rows j d).0 x (rising_rows rows i j d up lt l)
        | inr ge ↦ same_index rows x i j d (omega (arith, le, ge))
      ] in
      let sides = parted rise in
      λ c. not_there c.0 (length-map rows key) c.1 c.2 sides.0 sides.1
    where
      not_there : (i : ℕ) → length (map (λ (r : X × L). r.0) rows) ≡ length rows → i < length (map (λ (r : X × L). r.0) rows) → get_or (map (λ (r : X × L). r.0) rows) i x ≡ x
          → ((j : ℕ) (d : X × L) → 0 ≤ j → j < k → cmp (get_or rows j d).0 x ≡ Less) → ((j : ℕ) (d : X × L) → k ≤ j → j < length rows → cmp (get_or rows j d).0 x ≡ Greater) → ⊥
      not_there i long lt is low high =
          let within : i < length rows = omega (arith, long, lt) in
          at_row rows i (omega (arith, within)) is low high
        where
          at_row : (rs : List (X × L)) (i : ℕ) → i < length rs → get_or (map (λ (r : X × L). r.0) rs) i x ≡ x → ((j : ℕ) (d : X × L) → 0 ≤ j → j < k → cmp (get_or rs j d).0 x ≡ Less) → ((j : ℕ) (d : X × L) → k ≤ j → j < length rs → cmp (get_or rs j d).0 x ≡ Greater) → ⊥
          at_row [] i lt e low high = absurd (omega arith)
          at_row (r ∷ rs) i lt e low high =
              let same : (get_or (r ∷ rs) i r).0 ≡ x = sym (get_or-map (λ (r : X × L). r.0) (r ∷ rs) i r x lt) ∙ e in
              let tied : cmp (get_or (r ∷ rs) i r).0 x ≡ Equal = subst (λ (v : X). cmp v x ≡ Equal) (sym same) (tied_itself o.total x) in
              elim (cases_lt i k) [
                | inl before ↦ let q : Less ≡ Equal = sym (low i r (omega arith) before) ∙ tied in cc
                | inr after ↦ let q : Greater ≡ Equal = sym (high i r (omega (arith, after)) lt) ∙ tied in cc
              ]
