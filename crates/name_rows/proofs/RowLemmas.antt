-- Rows that are listed, sorted and left out, step by step.
use Rattle.std.proofs.Common.{◌≡◌, ◌↔◌, ℕ, zero, suc, ◌+◌, ◌<◌, Bool, true, false, not, cond, Some, None, Option, List, [], ◌∷◌, ◌++◌, length, take, get_or, slice_get, map, filter, flat_map, zip, All, refl, sym, ap, ap₂, ◌∙◌, subst, arith, append-nil, append_assoc, map-id, length-take-le}
use Rattle.std.specs.List.{AllZip, range_with_len}
use Rattle.std.proofs.lemmas.List.{get_or_default, map-append, take_more}
use Rattle.std.proofs.lemmas.List.Concat.{flat_map-append}
use Rattle.std.proofs.lemmas.List.Elements.{All-map, filter-append}
use Rattle.std.proofs.lemmas.List.FromFn.{map-range_with_len_more}
use Rattle.std.proofs.lemmas.Option.{same_Some, slice_get_within}
use Rattle.evidence_rules.specs.EvidenceRows.{AreBySupport, AreReduced, places_of}
use Rattle.evidence_rules.specs.Reaching.{IsImplied}
use Rattle.evidence_rules.specs.declared.between.Between.{Between}
use Rattle.evidence_rules.specs.declared.pair_row.PairRow.{PairRow}
use Rattle.name_meetings.specs.Tables.{no_figures}
use Rattle.support_order.specs.Orders.{IsOrder}
use Rattle.name_rows.specs.Kinds.{traces_of}
use Rattle.name_rows.specs.inner.Reducing.{unmarked}
use Rattle.name_rows.specs.inner.Sorting.{IsPicked}

abbrev Row : Type 0
Row = PairRow Between

-- what a read past the end would give
abbrev pub no_row : Row
no_row = record { first = 0; second = 0; figures = no_figures }

-- ---- rows of places
range_more : (n : ℕ) → range_with_len 0 (n + 1) ≡ range_with_len 0 n ++ n ∷ []
range_more n = sym (map-id (range_with_len 0 (n + 1))) ∙ (map-range_with_len_more (λ (x : ℕ). x) 0 n n (omega arith) ∙ ap (λ (l : List ℕ). l ++ n ∷ []) (map-id (range_with_len 0 n)))

pub flat_range_more : (f : ℕ → List Row) (n : ℕ) → flat_map f (range_with_len 0 (n + 1)) ≡ flat_map f (range_with_len 0 n) ++ f n
flat_range_more f n = ap (flat_map f) (range_more n) ∙ (flat_map-append f (range_with_len 0 n) (n ∷ []) ∙ ap (λ (l : List Row). flat_map f (range_with_len 0 n) ++ l) (append-nil (f n)))

-- behind others
pub flat_range_more_behind : (before : List Row) (f : ℕ → List Row) (n : ℕ) → (before ++ flat_map f (range_with_len 0 n)) ++ f n ≡ before ++ flat_map f (range_with_len 0 (n + 1))
flat_range_more_behind before f n = append_assoc before (flat_map f (range_with_len 0 n)) (f n) ∙ ap (λ (l : List Row). before ++ l) (sym (flat_range_more f n))

-- ---- rows in the order of their support
mapped_at : {X Y : Type 0} (f : X → Y) (xs : List X) (i : ℕ) (y : Y) → slice_get (map f xs) i ≡ Some y → (x : X) × (slice_get xs i ≡ Some x) × (f x ≡ y)
mapped_at f [] i y e = absurd (let n : None ≡ Some y = e in cc)
mapped_at f (x ∷ xs) zero y e = (x, refl, same_Some (f x) y e)
mapped_at f (x ∷ xs) (suc i) y e = mapped_at f xs i y e

at_mapped : {X Y : Type 0} (f : X → Y) (xs : List X) (i : ℕ) (x : X) → slice_get xs i ≡ Some x → slice_get (map f xs) i ≡ Some (f x)
at_mapped f [] i x e = absurd (let n : None ≡ Some x = e in cc)
at_mapped f (z ∷ xs) zero x e = ap (λ v. Some (f v)) (same_Some z x e)
at_mapped f (z ∷ xs) (suc i) x e = at_mapped f xs i x e

module _ (rows : List Row) (order : List (ℕ × ℕ)) (is : IsOrder (map (λ (row : Row). traces_of row.figures) rows) order) where
  pub order_within : (i : ℕ) (d : ℕ × ℕ) → i < length order → (get_or order i d).1 < length rows
  order_within i d l =
      let at = (is.exactly (get_or order i d)).0 (i, l, get_or_default order i (get_or order i d) d l) in
      let r = mapped_at (λ (row : Row). traces_of row.figures) rows (get_or order i d).1 (get_or order i d).0 at in
      slice_get_within rows (get_or order i d).1 r.0 r.1

  pub by_support_from : (picked : List Row) → IsPicked rows order picked → AreBySupport traces_of rows picked
  by_support_from picked are = record {
    order = order;
    lists = record {
      rising = is.rising;
      exactly = λ x. (
        (λ c. mapped_at (λ (row : Row). traces_of row.figures) rows x.1 x.0 ((is.exactly x).0 c)),
        (λ h. (is.exactly x).1 (subst (λ (n : ℕ). slice_get (map (λ (row : Row). traces_of row.figures) rows) x.1 ≡ Some n) h.2 (at_mapped (λ (row : Row). traces_of row.figures) rows x.1 h.0 h.1))),
      );
    };
    are = are;
  }

-- one row more is picked
pub picked_more : (rows : List Row) (order : List (ℕ × ℕ)) (i : ℕ) (d : ℕ × ℕ) (picked : List Row) (row : Row) → i < length order → slice_get rows (get_or order i d).1 ≡ Some row → IsPicked rows (take i order) picked → IsPicked rows (take (i + 1) order) (picked ++ row ∷ [])
picked_more rows order i d picked row l at so =
    map-append Some picked (row ∷ []) ∙ (ap (λ (xs : List (Option Row)). xs ++ Some row ∷ []) so
    ∙ (ap (λ (o : Option Row). map (λ (x : ℕ × ℕ). slice_get rows x.1) (take i order) ++ o ∷ []) (sym at)
    ∙ (sym (map-append (λ (x : ℕ × ℕ). slice_get rows x.1) (take i order) (get_or order i d ∷ [])) ∙ ap (map (λ (x : ℕ × ℕ). slice_get rows x.1)) (sym (take_more order i d l)))))

-- ---- rows that are left
zip_push : {X Y : Type 0} (xs : List X) (ys : List Y) (x : X) (y : Y) → length ys ≡ length xs → zip (xs ++ x ∷ []) (ys ++ y ∷ []) ≡ zip xs ys ++ (x, y) ∷ []
zip_push [] [] x y e = refl
zip_push [] (v ∷ ys) x y e = absurd (omega arith)
zip_push (u ∷ xs) [] x y e = absurd (omega arith)
zip_push (u ∷ xs) (v ∷ ys) x y e = ap (λ l. (u, v) ∷ l) (zip_push xs ys x y (omega arith))

unmarked_push : (rows : List Row) (marks : List Bool) (row : Row) (mark : Bool) → length marks ≡ length rows → unmarked (rows ++ row ∷ []) (marks ++ mark ∷ []) ≡ unmarked rows marks ++ cond (not mark) (row ∷ []) []
unmarked_push rows marks row mark e =
    ap (λ (l : List (Row × Bool)). map (λ (x : Row × Bool). x.0) (filter (λ (x : Row × Bool). not x.1) l)) (zip_push rows marks row mark e)
    ∙ (ap (map (λ (x : Row × Bool). x.0)) (filter-append (λ (x : Row × Bool). not x.1) (zip rows marks) ((row, mark) ∷ []))
    ∙ (map-append (λ (x : Row × Bool). x.0) (filter (λ (x : Row × Bool). not x.1) (zip rows marks)) (filter (λ (x : Row × Bool). not x.1) ((row, mark) ∷ []))
    ∙ ap (λ (l : List Row). unmarked rows marks ++ l) (by mark)))
  where
    by : (b : Bool) → map (λ (x : Row × Bool). x.0) (filter (λ (x : Row × Bool). not x.1) ((row, b) ∷ [])) ≡ cond (not b) (row ∷ []) []
    by true = refl
    by false = refl

pub unmarked_more : (rows : List Row) (marks : List Bool) (i : ℕ) (d : Row) → length marks ≡ length rows → i < length rows → unmarked (take (i + 1) rows) (take (i + 1) marks) ≡ unmarked (take i rows) (take i marks) ++ cond (not (get_or marks i false)) (get_or rows i d ∷ []) []
unmarked_more rows marks i d e l =
    ap₂ unmarked (take_more rows i d l) (take_more marks i false (omega arith))
    ∙ unmarked_push (take i rows) (take i marks) (get_or rows i d) (get_or marks i false) (length-take-le i marks (omega arith) ∙ sym (length-take-le i rows (omega arith)))

-- the mark is false: the row is left
pub unmarked_left : (rows : List Row) (marks : List Bool) (i : ℕ) (d : Row) (left : List Row) → length marks ≡ length rows → i < length rows → get_or marks i false ≡ false → left ≡ unmarked (take i rows) (take i marks) → left ++ get_or rows i d ∷ [] ≡ unmarked (take (i + 1) rows) (take (i + 1) marks)
unmarked_left rows marks i d left e l mark so =
    ap (λ (x : List Row). x ++ get_or rows i d ∷ []) so
    ∙ (sym (ap (λ (b : Bool). unmarked (take i rows) (take i marks) ++ cond (not b) (get_or rows i d ∷ []) []) mark) ∙ sym (unmarked_more rows marks i d e l))

-- the mark is true: it is left out
pub unmarked_out : (rows : List Row) (marks : List Bool) (i : ℕ) (d : Row) (left : List Row) → length marks ≡ length rows → i < length rows → get_or marks i false ≡ true → left ≡ unmarked (take i rows) (take i marks) → left ≡ unmarked (take (i + 1) rows) (take (i + 1) marks)
unmarked_out rows marks i d left e l mark so =
    so ∙ (sym (append-nil (unmarked (take i rows) (take i marks)))
    ∙ (sym (ap (λ (b : Bool). unmarked (take i rows) (take i marks) ++ cond (not b) (get_or rows i d ∷ []) []) mark) ∙ sym (unmarked_more rows marks i d e l)))

-- each row has the verdict of its places
verdicts_of : (R : ℕ × ℕ → Bool → Type 0) (rows : List Row) (marks : List Bool) → AllZip R (map places_of rows) marks → AllZip (λ (row : Row) v. R (places_of row) v) rows marks
verdicts_of R [] [] z = tt
verdicts_of R [] (v ∷ vs) z = absurd z
verdicts_of R (row ∷ rows) [] z = absurd z
verdicts_of R (row ∷ rows) (v ∷ vs) z = (z.0, verdicts_of R rows vs z.1)

pub verdict_count : (R : ℕ × ℕ → Bool → Type 0) (rows : List Row) (marks : List Bool) → AllZip R (map places_of rows) marks → length marks ≡ length rows
verdict_count R [] [] z = refl
verdict_count R [] (v ∷ vs) z = absurd z
verdict_count R (row ∷ rows) [] z = absurd z
verdict_count R (row ∷ rows) (v ∷ vs) z = ap (λ (n : ℕ). suc n) (verdict_count R rows vs z.1)

pub reduced_from : (rows : List Row) (marks : List Bool) (left : List Row) → AllZip (λ (pair : ℕ × ℕ) v. (v ≡ true) ↔ IsImplied (map places_of rows) pair.0 pair.1) (map places_of rows) marks → left ≡ unmarked rows marks → AreReduced rows left
reduced_from rows marks left told are = record {
  implied = marks;
  told = verdicts_of (λ (pair : ℕ × ℕ) v. (v ≡ true) ↔ IsImplied (map places_of rows) pair.0 pair.1) rows marks told;
  are = are;
}

-- the places are below the count
pub places_below : (count : ℕ) (rows : List Row) → All (λ (row : Row). (row.first < count) × (row.second < count)) rows → All (λ (pair : ℕ × ℕ). (pair.0 < count) × (pair.1 < count)) (map places_of rows)
places_below count rows below = All-map (λ (pair : ℕ × ℕ). (pair.0 < count) × (pair.1 < count)) places_of rows below
