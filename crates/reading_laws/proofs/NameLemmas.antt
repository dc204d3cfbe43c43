-- The names of the pieces of a good task are good, and so are lines under them.
use Rattle.std.proofs.Common.{◌≡◌, ◌⊎◌, inl, inr, ℕ, zero, suc, ◌+◌, ◌-◌, ◌^◌, ◌<◌, ◌≤◌, ◌==◌, ◌||◌, ◌&&◌, not, filter, List, [], ◌∷◌, ◌++◌, Bool, true, false, length, take, get_or, decimal, codes, refl, sym, ap, subst, ◌∙◌, arith}
use Rattle.std.specs.Prelude.{nat_le, nat_lt, if◌then◌else◌}
use Rattle.std.specs.List.{list_any, position_or_len, range_with_len}
use Rattle.std.specs.Str.{IsCharBoundary, IsUtf8}
use Rattle.std.specs.Str.{bytes_eq}
use Rattle.std.proofs.lemmas.Bool.{and_parts, cases_lt, le-leb, le-ltb, leb-true, lt-leb, ne_eqb, or_from, or_parts}
use Rattle.std.proofs.lemmas.Fmt.{length-decimal-le}
use Rattle.std.proofs.lemmas.List.{length-append}
use Rattle.std.proofs.lemmas.List.Folds.{list_any-append}
use Rattle.std.proofs.lemmas.Str.{IsCharBoundary-start, IsUtf8-append, IsUtf8-take}
use Rattle.json.proofs.Printed.Utf8.{IsUtf8-are_ascii}
use Rattle.event_lines.specs.EventFaults.{is_control_character}
use Rattle.task_pieces.specs.PieceNames.{cut_length, free_numbers, is_free, is_inner_byte, is_number_sign, numbered_name, piece_name, stem_of}
use Rattle.task_pieces.proofs.CutLemmas.{kept_whole, first_bounds}
use Rattle.import_laws.proofs.NameLaws.{place_within}
use Rattle.reading_laws.specs.Readings.{IsGoodText}
use Rattle.reading_laws.proofs.TextLemmas.{IsClean, clean_of, decimal_clean, decimal_part}

-- ---- a text by its length

some_bytes : (text : List ℕ) → IsGoodText text → 0 < length text
some_bytes text h = by (cases_lt 0 (length text))
  where
    parts : ((length text == 0 || nat_lt 64 (length text)) ≡ false) × (list_any is_control_character text ≡ false)
    parts = or_parts (length text == 0 || nat_lt 64 (length text)) (list_any is_control_character text) h.good

    by : (0 < length text) ⊎ (length text ≤ 0) → 0 < length text
    by (inl l) = l
    by (inr z) = let none : length text ≡ 0 = omega (arith, z) in
        absurd (cc (sym (ap (λ n. n == 0) none) ∙ (or_parts (length text == 0) (nat_lt 64 (length text)) parts.0).0))

good_by : (text : List ℕ) → IsUtf8 text → 0 < length text → length text ≤ 64 → IsClean text → IsGoodText text
good_by text utf8 some short clean = record {
  utf8 = utf8;
  good =
      or_from (length text == 0 || nat_lt 64 (length text)) (list_any is_control_character text)
      (or_from (length text == 0) (nat_lt 64 (length text)) (ne_eqb (length text) 0 (λ e. omega (arith, e, some))) (le-ltb 64 (length text) short)) clean;
}

both_clean : (xs ys : List ℕ) → IsClean xs → IsClean ys → IsClean (xs ++ ys)
both_clean xs ys h k = list_any-append is_control_character xs ys ∙ or_from (list_any is_control_character xs) (list_any is_control_character ys) h k

take_clean : (n : ℕ) (text : List ℕ) → IsClean text → IsClean (take n text)
take_clean zero text h = refl
take_clean (suc n) [] h = refl
take_clean (suc n) (x ∷ text) h =
    let p = or_parts (is_control_character x) (list_any is_control_character text) h in
    or_from (is_control_character x) (list_any is_control_character (take n text)) p.0 (take_clean n text p.1)

take_short : (n : ℕ) (text : List ℕ) → length (take n text) ≤ n
take_short zero text = omega arith
take_short (suc n) [] = omega arith
take_short (suc n) (x ∷ text) = omega (arith, take_short n text)

-- ---- where a text is cut

cut_boundary : (text : List ℕ) (n : ℕ) → IsUtf8 text → n < length text → IsCharBoundary text (cut_length text n)
cut_boundary text zero utf8 lt = IsCharBoundary-start text utf8
cut_boundary text (suc n) utf8 lt = by (is_inner_byte (get_or text (suc n) 0)) refl (cut_boundary text n utf8 (omega (arith, lt)))
  where
    by : (b : Bool) → is_inner_byte (get_or text (suc n) 0) ≡ b → IsCharBoundary text (cut_length text n) → IsCharBoundary text (cut_length text (suc n))
    by true e rest = subst (IsCharBoundary text) (sym (ap (λ b. if b then cut_length text n else suc n) e)) rest
    by false e rest = subst (IsCharBoundary text) (sym (ap (λ b. if b then cut_length text n else suc n) e)) (omega (arith, lt), λ within low. first_bounds (get_or text (suc n) 0) e low)

cut_le : (text : List ℕ) (n : ℕ) → cut_length text n ≤ n
cut_le text zero = omega arith
cut_le text (suc n) = by (is_inner_byte (get_or text (suc n) 0)) refl (cut_le text n)
  where
    by : (b : Bool) → is_inner_byte (get_or text (suc n) 0) ≡ b → cut_length text n ≤ n → cut_length text (suc n) ≤ suc n
    by true e rest = let is : cut_length text (suc n) ≡ cut_length text n = ap (λ b. if b then cut_length text n else suc n) e in omega (arith, is, rest)
    by false e rest = let is : cut_length text (suc n) ≡ suc n = ap (λ b. if b then cut_length text n else suc n) e in omega (arith, is)

cut_utf8 : (text : List ℕ) → IsUtf8 text → IsUtf8 (take (cut_length text 42) text)
cut_utf8 text utf8 = by (cases_lt 42 (length text))
  where
    by : (42 < length text) ⊎ (length text ≤ 42) → IsUtf8 (take (cut_length text 42) text)
    by (inl long) = IsUtf8-take text (cut_length text 42) utf8 (cut_boundary text 42 utf8 long)
    by (inr short) = subst IsUtf8 (sym (kept_whole text 41 short)) utf8

-- ---- names

-- what stands before a number is short, and a text so far as it goes
record IsStem (text : List ℕ) : Type 0 where
  utf8 : IsUtf8 text
  short : length text ≤ 53
  clean : IsClean text

module _ (tasks : List (List ℕ)) (few : length tasks < 2 ^ 31) (task : List ℕ) (h : IsGoodText task) where
  abbrev number : ℕ
  number = position_or_len (bytes_eq task) tasks + 1

  stem_good : IsStem (stem_of tasks task)
  stem_good = by (nat_le (length task) 40 && not (list_any is_number_sign task)) refl
    where
      cut : List ℕ
      cut = take (cut_length task 42) task

      small : number < 2 ^ 32
      small = omega (arith, place_within task tasks, few)

      by : (b : Bool) → (nat_le (length task) 40 && not (list_any is_number_sign task)) ≡ b → IsStem (stem_of tasks task)
      by true e =
          let low = leb-true (length task) 40 (and_parts (nat_le (length task) 40) (not (list_any is_number_sign task)) e).0 in
          subst IsStem (sym (ap (λ b. if b then task else take (cut_length task 42) task ++ codes "#" ++ decimal number) e)) (record { utf8 = h.utf8; short = omega (arith, low); clean = clean_of task h })
      by false e =
          let front = take (cut_length task 42) task in
          let digits = length-decimal-le 10 number (omega arith) (omega (arith, small)) (omega (arith, small)) in
          subst IsStem (sym (ap (λ b. if b then task else take (cut_length task 42) task ++ codes "#" ++ decimal number) e)) (record {
            utf8 = IsUtf8-append (front ++ codes "#") (decimal number) (IsUtf8-append front (codes "#") (cut_utf8 task h.utf8) (IsUtf8-are_ascii (codes "#") refl)) (decimal_part number (omega (arith, small))).utf8;
            short = omega (arith, length-append (front ++ codes "#") (decimal number), length-append front (codes "#"), take_short (cut_length task 42) task, cut_le task 42, digits);
            clean = both_clean (front ++ codes "#") (decimal number) (both_clean front (codes "#") (take_clean (cut_length task 42) task (clean_of task h)) refl) (decimal_clean number (omega (arith, small)));
          })

  -- a number that passes is in the row
  in_row : (p : ℕ → Bool) (a n i : ℕ) → get_or (filter p (range_with_len a n)) i 0 ≤ a + n
  in_row p a zero i = omega arith
  in_row p a (suc n) i = by (p a) refl (in_row p (a + 1) n)
    where
      here : ((k : ℕ) → get_or (filter p (range_with_len (a + 1) n)) k 0 ≤ a + 1 + n) → (k : ℕ) → get_or (a ∷ filter p (range_with_len (a + 1) n)) k 0 ≤ a + suc n
      here later zero = omega arith
      here later (suc k) = omega (arith, later k)

      by : (b : Bool) → p a ≡ b → ((k : ℕ) → get_or (filter p (range_with_len (a + 1) n)) k 0 ≤ a + 1 + n) → get_or (filter p (range_with_len a (suc n))) i 0 ≤ a + suc n
      by true e later =
          let is : filter p (range_with_len a (suc n)) ≡ a ∷ filter p (range_with_len (a + 1) n) = rw e refl in
          subst (λ (xs : List ℕ). get_or xs i 0 ≤ a + suc n) (sym is) (here later i)
      by false e later =
          let is : filter p (range_with_len a (suc n)) ≡ filter p (range_with_len (a + 1) n) = rw e refl in
          subst (λ (xs : List ℕ). get_or xs i 0 ≤ a + suc n) (sym is) (omega (arith, later i))

  pub name_good : (piece : ℕ) → piece ≤ 2 ^ 31 → IsGoodText (piece_name tasks task piece)
  name_good piece low = by (cases_lt 1 piece)
    where
      by : (1 < piece) ⊎ (piece ≤ 1) → IsGoodText (piece_name tasks task piece)
      by (inr first) = subst IsGoodText (sym (ap (λ b. if b then task else numbered_name (stem_of tasks task) (get_or (free_numbers tasks (stem_of tasks task) piece) (piece - 2) 0)) (le-leb piece 1 first))) h
      by (inl later) =
          let stem = stem_of tasks task in
          let n = get_or (free_numbers tasks stem piece) (piece - 2) 0 in
          let small : n < 2 ^ 33 = omega (arith, in_row (is_free tasks stem) 2 (piece + length tasks) (piece - 2), low, few) in
          let digits = length-decimal-le 10 n (omega arith) (omega (arith, small)) (omega (arith, small)) in
          let s = stem_good in
          subst IsGoodText (sym (ap (λ b. if b then task else numbered_name (stem_of tasks task) (get_or (free_numbers tasks (stem_of tasks task) piece) (piece - 2) 0)) (lt-leb piece 1 later)))
          (good_by (numbered_name stem n)
          (IsUtf8-append (stem ++ codes "/") (decimal n) (IsUtf8-append stem (codes "/") s.utf8 (IsUtf8-are_ascii (codes "/") refl)) (decimal_part n (omega (arith, small))).utf8)
          (omega (arith, length-append (stem ++ codes "/") (decimal n), length-append stem (codes "/")))
          (omega (arith, length-append (stem ++ codes "/") (decimal n), length-append stem (codes "/"), s.short, digits))
          (both_clean (stem ++ codes "/") (decimal n) (both_clean stem (codes "/") s.clean refl) (decimal_clean n (omega (arith, small)))))
