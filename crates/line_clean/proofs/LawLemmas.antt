-- What is printed of lines is read again.
use Rattle.std.proofs.Common.{◌≡◌, ◌+◌, ◌&&◌, not, ℕ, suc, List, [], ◌∷◌, ◌++◌, Bool, true, false, Result, Ok, Err, length, ap, refl, ◌∙◌, append_assoc, append-nil}
use Rattle.std.specs.Prelude.{filter, if◌then◌else◌, is_ok, nat_le}
use Rattle.std.specs.List.{AllByRecursion, flat_map}
use Rattle.std.specs.Result.{result_map_both}
use Rattle.std.proofs.lemmas.List.Splits.{slice_split_at}
use Rattle.event_lines.specs.Cut.{input_lines, is_blank_line, is_line_feed}
use Rattle.event_lines.specs.InputLines.{LineFault, lines_said, lines_said_from}
use Rattle.event_lines.specs.LineResults.{line_result}
use Rattle.event_lines.specs.declared.line.Line.{Line}
use Rattle.event_lines.specs.declared.why.Why.{Why}
use Rattle.mystery_io.specs.Input.{input_limit}
use Rattle.mystery_io.specs.Readings.{Reading}
use Rattle.event_lines.proofs.ClearLineLemmas.{IsClear, lines_clear}
use Rattle.line_clean.specs.Lines.{clean_text, is_good, line_row, lines_read}
use Rattle.line_clean.proofs.GoodLemmas.{clean_append}
use Rattle.line_clean.proofs.JudgingLemmas.{number_is_free, said_blank, said_good}

-- ---- what holds of all lines

both_all : {X : Type 0} (P : X → Type 0) (xs ys : List X) → AllByRecursion P xs → AllByRecursion P ys → AllByRecursion P (xs ++ ys)
both_all P [] ys h k = k
both_all P (x ∷ xs) ys h k = (h.0, both_all P xs ys h.1 k)

all_read : (readings : List Reading) → AllByRecursion IsClear (lines_read readings)
all_read [] = tt
all_read (r ∷ rs) = both_all IsClear (input_lines r.bytes) (lines_read rs) (lines_clear r.bytes) (all_read rs)

kept_by : (P : List ℕ → Type 0) (line : List ℕ) (lines : List (List ℕ)) (b : Bool) → P line → AllByRecursion P lines → AllByRecursion P (if b then line ∷ lines else lines)
kept_by P line lines true h k = (h, k)
kept_by P line lines false h k = k

all_kept : (P : List ℕ → Type 0) (lines : List (List ℕ)) → AllByRecursion P lines → AllByRecursion P (filter is_good lines)
all_kept P [] h = tt
all_kept P (line ∷ lines) h = kept_by P line (filter is_good lines) (is_good line) h.0 (all_kept P lines h.1)

abbrev AreGood : List (List ℕ) → Type 0
AreGood lines = AllByRecursion (λ line. is_good line ≡ true) lines

good_by : (line : List ℕ) (lines : List (List ℕ)) (b : Bool) → is_good line ≡ b → AreGood lines → AreGood (if b then line ∷ lines else lines)
good_by line lines true e h = (e, h)
good_by line lines false e h = h

all_good : (lines : List (List ℕ)) → AreGood (filter is_good lines)
all_good [] = tt
all_good (line ∷ lines) = good_by line (filter is_good lines) (is_good line) refl (all_good lines)

-- ---- the lines of rows

rows_lines : (lines : List (List ℕ)) → AllByRecursion IsClear lines → input_lines (flat_map line_row lines) ≡ lines ++ [] ∷ []
rows_lines [] h = refl
rows_lines (line ∷ lines) h =
    ap input_lines (append_assoc line (10 ∷ []) (flat_map line_row lines)) ∙ slice_split_at is_line_feed line 10 (flat_map line_row lines) h.0 refl
    ∙ ap (λ ls. line ∷ ls) (rows_lines lines h.1)

pub printed_lines : (readings : List Reading) → input_lines (clean_text (lines_read readings)) ≡ filter is_good (lines_read readings) ++ [] ∷ []
printed_lines readings = rows_lines (filter is_good (lines_read readings)) (all_kept IsClear (lines_read readings) (all_read readings))

-- ---- what they say

three : (b r s : Bool) → (not b && (r && s)) ≡ true → (b ≡ false) × (s ≡ true)
three true r s h = absurd (cc h)
three false true true h = (refl, refl)
three false true false h = absurd (cc h)
three false false s h = absurd (cc h)

record Says (n : ℕ) (lines : List (List ℕ)) : Type 0 where
  pub said : List Line
  pub is : lines_said_from n (lines ++ [] ∷ []) ≡ Ok said
  pub many : length said ≡ length lines

says_by : (n : ℕ) (line : List ℕ) (lines : List (List ℕ)) (r : Result Line Why) → line_result n line ≡ r → is_blank_line line ≡ false → is_ok r ≡ true → Says (n + 1) lines → Says n (line ∷ lines)
says_by n line lines (Ok x) e blank ok h = record {
  said = x ∷ h.said;
  is = said_good n line (lines ++ [] ∷ []) x blank e ∙ ap (λ (t : Result (List Line) LineFault). result_map_both (λ xs. x ∷ xs) (λ e. e) t) h.is;
  many = ap suc h.many;
}
says_by n line lines (Err why) e blank ok h = absurd (cc ok)

says : (n : ℕ) (lines : List (List ℕ)) → AreGood lines → Says n lines
says n [] h = record { said = []; is = said_blank n [] [] refl; many = refl }
says n (line ∷ lines) h =
    let parts = three (is_blank_line line) (nat_le (length line) input_limit) (is_ok (line_result 1 line)) h.0 in
    says_by n line lines (line_result n line) refl parts.0 (number_is_free n 1 line ∙ parts.1) (says (n + 1) lines h.1)

pub printed_said : (readings : List Reading) → (lines : List Line) × (lines_said (clean_text (lines_read readings)) ≡ Ok lines) × (length lines ≡ length (filter is_good (lines_read readings)))
printed_said readings =
    let h = says 1 (filter is_good (lines_read readings)) (all_good (lines_read readings)) in
    (h.said, ap (lines_said_from 1) (printed_lines readings) ∙ h.is, h.many)

-- ---- cleaned again

all_stay : (lines : List (List ℕ)) → AreGood lines → clean_text lines ≡ flat_map line_row lines
all_stay [] h = refl
all_stay (line ∷ lines) h = ap (λ (b : Bool). flat_map line_row (if b then line ∷ filter is_good lines else filter is_good lines)) h.0 ∙ ap (λ xs. line_row line ++ xs) (all_stay lines h.1)

pub printed_again : (readings : List Reading) → clean_text (input_lines (clean_text (lines_read readings))) ≡ clean_text (lines_read readings)
printed_again readings =
    let goods = filter is_good (lines_read readings) in
    ap clean_text (printed_lines readings) ∙ clean_append goods ([] ∷ []) ∙ append-nil (clean_text goods) ∙ all_stay goods (all_good (lines_read readings))
