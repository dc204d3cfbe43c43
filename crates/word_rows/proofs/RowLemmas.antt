-- The form of a row, entry by entry.
use Rattle.std.proofs.Common.{◌≡◌, ℕ, ◌+◌, ◌<◌, ◌≤◌, Bool, true, false, not, ◌&&◌, ◌==◌, nat_lt, List, [], ◌∷◌, length, map, sym, refl, ap, ◌∙◌, arith, zero, suc, get_or}
use Rattle.std.proofs.lemmas.Bool.{false≢true, eq-eqb, eqb-true, lt-ltb, le-ltb, ltb-true, ltb-false, and_parts, and_from, not_from_false, not-true}
use Rattle.std.specs.List.{list_all}
use Rattle.word_rows.specs.declared.entries.Entry.{Entry}
use Rattle.word_rows.specs.Rows.{is_rising, is_ascending, is_row, same_entry, same_row, below}
use Rattle.word_rows.specs.Meeting.{SameRowIsOne, RowIsSame}

-- a row has an entry
pub row_long : (row : List Entry) → is_row row ≡ true → 0 < length row
row_long [] t = absurd (false≢true t)
row_long (e ∷ es) t = omega arith

-- the words rise from this one on, and no mask is 0
abbrev pub goes_on : ℕ → List Entry → Bool
goes_on least [] = true
goes_on least (e ∷ es) = not (nat_lt e.word least) && not (e.mask == 0) && goes_on (e.word + 1) es

abbrev word_of : Entry → ℕ
word_of e = e.word

abbrev all_from : ℕ → List Entry → Bool
all_from least row = list_all (λ (n : ℕ). not (nat_lt n least)) (map word_of row)

abbrev masked : List Entry → Bool
masked row = list_all (λ (e : Entry). not (e.mask == 0)) row

above : (n m : ℕ) → nat_lt n m ≡ not (nat_lt m (n + 1))
above n m = grind (arith, lt-ltb, le-ltb, ltb-true, ltb-false)

all_above : (n : ℕ) (row : List Entry) → list_all (λ (m : ℕ). nat_lt n m) (map word_of row) ≡ all_from (n + 1) row
all_above n [] = refl
all_above n (e ∷ es) = λ j. above n e.word j && all_above n es j

all_lower : (n m : ℕ) (row : List Entry) → n ≤ m → all_from m row ≡ true → all_from n row ≡ true
all_lower n m [] h t = refl
all_lower n m (e ∷ es) h t = let p = and_parts (not (nat_lt e.word m)) (all_from m es) t in and_from _ _ (lower (nat_lt e.word m) refl p.0) (all_lower n m es h p.1)
  where
    lower : (b : Bool) → nat_lt e.word m ≡ b → not b ≡ true → not (nat_lt e.word n) ≡ true
    lower true is t = absurd (false≢true t)
    lower false is t = let l = ltb-false e.word m is in not_from_false _ (le-ltb e.word n (omega arith))

regroup : (a m f g r k : Bool) → (a ≡ true → g ≡ true → f ≡ true) → (a && m && (g && r && k)) ≡ ((a && f) && (g && r) && (m && k))
regroup false m f g r k h = refl
regroup true m f true r k h = swapped m r k ∙ ap (λ (t : Bool). (t && r) && (m && k)) (sym (h refl refl))
  where
    swapped : (m r k : Bool) → (m && (r && k)) ≡ (r && (m && k))
    swapped true r k = refl
    swapped false true k = refl
    swapped false false k = refl
regroup true true true false r k h = refl
regroup true true false false r k h = refl
regroup true false true false r k h = refl
regroup true false false false r k h = refl

-- the same by all pairs of entries
pub goes_on_is : (least : ℕ) (row : List Entry) → goes_on least row ≡ (all_from least row && is_rising (map word_of row) && masked row)
goes_on_is least [] = refl
goes_on_is least (e ∷ es) =
    let first : Bool = not (nat_lt e.word least) in let mask : Bool = not (e.mask == 0) in
    ap (λ (t : Bool). first && mask && t) (goes_on_is (e.word + 1) es)
    ∙ regroup first mask (all_from least es) (all_from (e.word + 1) es) (is_rising (map word_of es)) (masked es)
    (λ a g. let l = ltb-false e.word least (not-true _ a) in all_lower least (e.word + 1) es (omega arith) g)
    ∙ ap (λ (t : Bool). (first && all_from least es) && (t && is_rising (map word_of es)) && (mask && masked es)) (sym (all_above e.word es))

all_from_none : (row : List Entry) → all_from 0 row ≡ true
all_from_none [] = refl
all_from_none (e ∷ es) = and_from _ _ (not_from_false _ (le-ltb e.word 0 (omega arith))) (all_from_none es)

-- from the first entry on
pub goes_on_all : (row : List Entry) → goes_on 0 row ≡ is_ascending row
goes_on_all row = goes_on_is 0 row ∙ ap (λ (t : Bool). t && is_rising (map word_of row) && masked row) (all_from_none row)

-- ---- equality by entries
pub same_row_is_one : SameRowIsOne
same_row_is_one [] [] t = refl
same_row_is_one [] (y ∷ ys) t = absurd (false≢true t)
same_row_is_one (x ∷ xs) [] t = absurd (false≢true t)
same_row_is_one (x ∷ xs) (y ∷ ys) t =
    let p = and_parts (same_entry x y) (same_row xs ys) t in let q = and_parts (x.word == y.word) (x.mask == y.mask) p.0 in
    let w : x.word ≡ y.word = eqb-true _ _ q.0 in let m : x.mask ≡ y.mask = eqb-true _ _ q.1 in
    λ j. record { word = w j; mask = m j } ∷ same_row_is_one xs ys p.1 j

pub row_is_same : RowIsSame
row_is_same [] = refl
row_is_same (e ∷ es) = and_from _ _ (and_from _ _ (eq-eqb e.word e.word refl) (eq-eqb e.mask e.mask refl)) (row_is_same es)

-- an entry of the row names a word of the table
pub entry_below : (width : ℕ) (row : List Entry) (i : ℕ) (d : Entry) → below width row ≡ true → i < length row → (get_or row i d).word < width
entry_below width [] i d b h = absurd (omega arith)
entry_below width (e ∷ es) zero d b h = ltb-true _ _ (and_parts (nat_lt e.word width) (below width es) b).0
entry_below width (e ∷ es) (suc i) d b h = entry_below width es i d (and_parts (nat_lt e.word width) (below width es) b).1 (omega arith)
