-- Rows that are listed and sorted, step by step.
use Rattle.std.proofs.Common.{◌≡◌, ℕ, zero, suc, ◌+◌, ◌<◌, Some, None, Option, List, [], ◌∷◌, ◌++◌, length, take, get_or, slice_get, map, flat_map, refl, sym, ap, ◌∙◌, subst, arith, append-nil, append_assoc, map-id}
use Rattle.std.specs.List.{range_with_len}
use Rattle.std.proofs.lemmas.List.{get_or_default, map-append, take_more}
use Rattle.std.proofs.lemmas.List.Concat.{flat_map-append}
use Rattle.std.proofs.lemmas.List.FromFn.{map-range_with_len_more}
use Rattle.std.proofs.lemmas.Option.{same_Some, slice_get_within}
use Rattle.evidence_rules.specs.EvidenceRows.{AreBySupport}
use Rattle.evidence_rules.specs.declared.sharing.Sharing.{Sharing}
use Rattle.evidence_rules.specs.declared.pair_row.PairRow.{PairRow}
use Rattle.task_rows.specs.Tables.{no_figures}
use Rattle.support_order.specs.Orders.{IsOrder}
use Rattle.task_rows.specs.Kinds.{traces_of}
use Rattle.task_rows.specs.inner.Sorting.{IsPicked}

abbrev Row : Type 0
Row = PairRow Sharing

-- what a read past the end would give
abbrev pub no_row : Row
no_row = record { first = 0; second = 0; figures = no_figures }

-- ---- rows of places
range_more : (n : ℕ) → range_with_len 0 (n + 1) ≡ range_with_len 0 n ++ n ∷ []
range_more n = sym (map-id (range_with_len 0 (n + 1))) ∙ (map-range_with_len_more (λ (x : ℕ). x) 0 n n (omega arith) ∙ ap (λ (l : List ℕ). l ++ n ∷ []) (map-id (range_with_len 0 n)))

pub flat_range_more : (f : ℕ → List Row) (n : ℕ) → flat_map f (range_with_len 0 (n + 1)) ≡ flat_map f (range_with_len 0 n) ++ f n
flat_range_more f n = ap (flat_map f) (range_more n) ∙ (flat_map-append f (range_with_len 0 n) (n ∷ []) ∙ ap (λ (l : List Row). flat_map f (range_with_len 0 n) ++ l) (append-nil (f n)))

-- behind others
pub flat_range_more_behind : (before : List Row) (f : ℕ → List Row) (n : ℕ) → (before ++ flat_map f (range_with_len 0 n)) ++ f n ≡ before ++ flat_map f (range_with_len 0 (n + 1))
flat_range_more_behind before f n = append_assoc before (flat_map f (range_with_len 0 n)) (f n) ∙ ap (λ (l : List Row). before ++ l) (sym (flat_range_more f n))

-- ---- rows in the order of their support
mapped_at : {X Y : Type 0} (f : X → Y) (xs : List X) (i : ℕ) (y : Y) → slice_get (map f xs) i ≡ Some y → (x : X) × (slice_get xs i ≡ Some x) × (f x ≡ y)
mapped_at f [] i y e = absurd (let n : None ≡ Some y = e in cc)
mapped_at f (x ∷ xs) zero y e = (x, refl, same_Some (f x) y e)
mapped_at f (x ∷ xs) (suc i) y e = mapped_at f xs i y e

at_mapped : {X Y : Type 0} (f : X → Y) (xs : List X) (i : ℕ) (x : X) → slice_get xs i ≡ Some x → slice_get (map f xs) i ≡ Some (f x)
at_mapped f [] i x e = absurd (let n : None ≡ Some x = e in cc)
at_mapped f (z ∷ xs) zero x e = ap (λ v. Some (f v)) (same_Some z x e)
at_mapped f (z ∷ xs) (suc i) x e = at_mapped f xs i x e

module _ (rows : List Row) (order : List (ℕ × ℕ)) (is : IsOrder (map (λ (row : Row). traces_of row.figures) rows) order) where
  pub order_within : (i : ℕ) (d : ℕ × ℕ) → i < length order → (get_or order i d).1 < length rows
  order_within i d l =
      let at = (is.exactly (get_or order i d)).0 (i, l, get_or_default order i (get_or order i d) d l) in
      let r = mapped_at (λ (row : Row). traces_of row.figures) rows (get_or order i d).1 (get_or order i d).0 at in
      slice_get_within rows (get_or order i d).1 r.0 r.1

  pub by_support_from : (picked : List Row) → IsPicked rows order picked → AreBySupport traces_of rows picked
  by_support_from picked are = record {
    order = order;
    lists = record {
      rising = is.rising;
      exactly = λ x. (
        (λ c. mapped_at (λ (row : Row). traces_of row.figures) rows x.1 x.0 ((is.exactly x).0 c)),
        (λ h. (is.exactly x).1 (subst (λ (n : ℕ). slice_get (map (λ (row : Row). traces_of row.figures) rows) x.1 ≡ Some n) h.2 (at_mapped (λ (row : Row). traces_of row.figures) rows x.1 h.0 h.1))),
      );
    };
    are = are;
  }

-- one row more is picked
pub picked_more : (rows : List Row) (order : List (ℕ × ℕ)) (i : ℕ) (d : ℕ × ℕ) (picked : List Row) (row : Row) → i < length order → slice_get rows (get_or order i d).1 ≡ Some row → IsPicked rows (take i order) picked → IsPicked rows (take (i + 1) order) (picked ++ row ∷ [])
picked_more rows order i d picked row l at so =
    map-append Some picked (row ∷ []) ∙ (ap (λ (xs : List (Option Row)). xs ++ Some row ∷ []) so
    ∙ (ap (λ (o : Option Row). map (λ (x : ℕ × ℕ). slice_get rows x.1) (take i order) ++ o ∷ []) (sym at)
    ∙ (sym (map-append (λ (x : ℕ × ℕ). slice_get rows x.1) (take i order) (get_or order i d ∷ [])) ∙ ap (map (λ (x : ℕ × ℕ). slice_get rows x.1)) (sym (take_more order i d l)))))
