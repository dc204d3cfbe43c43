-- The rows of pairs of items.
use Rattle.std.proofs.Common.{◌≡◌, ◌↔◌, ℕ, ◌+◌, ◌<◌, ◌≤◌, Bool, true, if◌then◌else◌, Some, List, [], ◌∷◌, ◌++◌, length, get_or, take, sym, subst, arith, Ordering}
use Rattle.std.specs.declared.cmp.Ordering.TheVariants.{Less}
use Rattle.std.specs.Cmp.{IsTotalOrder}
use Rattle.std.specs.List.{AllPairs, Contains, slice_get}
use Rattle.std.proofs.lemmas.Option.{get_or_from_slice_get}
use Rattle.trace_types.proofs.ElementLemmas.{at_index}
use Rattle.view_rows.specs.inner.Growing.{AppendsExactly}
use Rattle.trace_types.specs.Listing.{ListsExactly}
use Rattle.trace_types.specs.NameOrder.{pair_cmp}
use Rattle.kept_names.proofs.ListingLemmas.{get_item, is_item, text_at, texts_long, texts_of, texts_rise}
use Rattle.view_rows.proofs.PairLemmas.{IsInRow, IsInRows, row_begun, row_done, row_more, rows_done, rows_more}

module _ {X : Type 0} (cmp : X → X → Ordering) (total : IsTotalOrder cmp) (items : List (X × ℕ)) (rising : AllPairs (λ (i j : X × ℕ). cmp i.0 j.0 ≡ Less) items) (Q : X → X → Type 0) where
  pub row_start : (first : X) (old : List (X × X)) → AppendsExactly (pair_cmp cmp) (IsInRow Q first []) old old
  row_start first old = row_begun cmp total Q (texts_of items) (texts_rise cmp total items rising) first old

  pub row_step : (at place : ℕ) (i j : X × ℕ) → at < length items → i ≡ get_or items at i → place < length items → j ≡ get_or items place j
      → (old now new : List (X × X)) (wanted : Bool) → (wanted ≡ true) ↔ Q i.0 j.0 → new ≡ (if wanted then now ++ (i.0, j.0) ∷ [] else now)
      → ((first : X × ℕ) → slice_get items at ≡ Some first → AppendsExactly (pair_cmp cmp) (IsInRow Q first.0 (take place (texts_of items))) old now)
      → (first : X × ℕ) → slice_get items at ≡ Some first → AppendsExactly (pair_cmp cmp) (IsInRow Q first.0 (take (place + 1) (texts_of items))) old new
  row_step at place i j la ei lp ej old now new wanted told is so_far first e =
      let lt : place < length (texts_of items) = omega (arith, texts_long items) in
      subst (λ (f : X × ℕ). AppendsExactly (pair_cmp cmp) (IsInRow Q f.0 (take (place + 1) (texts_of items))) old new) (is_item items at i first la ei e)
      (row_more cmp total Q (texts_of items) (texts_rise cmp total items rising) i.0 place j.0 lt (text_at items place j lp ej) old now new wanted told is (so_far i (get_item items at i la ei)))

  pub row_end : ((x y : X) → Q x y → Contains (texts_of items) y) → (first : X) (place : ℕ) → length items ≤ place → (old new : List (X × X)) → AppendsExactly (pair_cmp cmp) (IsInRow Q first (take place (texts_of items))) old new
      → AppendsExactly (pair_cmp cmp) (λ (p : X × X). (p.0 ≡ first) × Q p.0 p.1) old new
  row_end known first place all old new so_far = row_done cmp total Q (texts_of items) (texts_rise cmp total items rising) known first place (omega (arith, texts_long items)) old new so_far

  pub rows_step : (at : ℕ) → at < length items → (now new : List (X × X)) → ListsExactly (pair_cmp cmp) (IsInRows Q (take at (texts_of items))) now
      → ((first : X × ℕ) → slice_get items at ≡ Some first → AppendsExactly (pair_cmp cmp) (λ (p : X × X). (p.0 ≡ first.0) × Q p.0 p.1) now new)
      → ListsExactly (pair_cmp cmp) (IsInRows Q (take (at + 1) (texts_of items))) new
  rows_step at lt now new so_far row =
      let f = at_index items at lt in
      let e : f.0 ≡ get_or items at f.0 = sym (get_or_from_slice_get items at f.0 f.0 f.1) in
      let inside : at < length (texts_of items) = omega (arith, texts_long items) in
      rows_more cmp total Q (texts_of items) (texts_rise cmp total items rising) at f.0.0 inside (text_at items at f.0 lt e) now new so_far (row f.0 f.1)

  pub rows_end : ((x y : X) → Q x y → Contains (texts_of items) x) → (at : ℕ) → length items ≤ at → (new : List (X × X)) → ListsExactly (pair_cmp cmp) (IsInRows Q (take at (texts_of items))) new
      → ListsExactly (pair_cmp cmp) (λ (p : X × X). Q p.0 p.1) new
  rows_end known at all new so_far = rows_done cmp total Q (texts_of items) (texts_rise cmp total items rising) known at (omega (arith, texts_long items)) new so_far
