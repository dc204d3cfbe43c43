-- An input in pieces: bytes that are cut at a line feed, and what each piece says.
use Rattle.std.proofs.Common.{◌≡◌, ℕ, ◌+◌, ◌<◌, ◌≤◌, List, [], ◌∷◌, ◌++◌, length, Bool, true, false, Result, Ok, Err, arith, refl, sym, ap, ◌∙◌, append_assoc}
use Rattle.std.specs.List.{slice_split, onto_first}
use Rattle.std.proofs.lemmas.List.{length-append}
use Rattle.std.proofs.lemmas.List.Splits.{slice_split-cons_yes, slice_split-cons_no, length-slice_split}
use Rattle.std.proofs.lemmas.List.Sums.{count_by-le-length}
use Rattle.event_lines.specs.declared.line.Line.{Line}
use Rattle.event_lines.specs.declared.line_error.LineError.{LineError}
use Rattle.event_lines.specs.declared.lines_read.LinesRead.{LinesRead}
use Rattle.event_lines.specs.Cut.{is_line_feed, input_lines}
use Rattle.event_lines.specs.InputLines.{LineFault, both_said, lines_said_from}
use Rattle.event_lines.specs.inner.Readings.{IsNumberedReading, IsReadingFrom}
use Rattle.event_lines.proofs.InputLineLemmas.{both_said-nil, lines_said_from-cons}

-- ---- bytes that are cut at a line feed

onto_first-append : {X : Type 0} (x : X) (ps qs : List (List X)) → 0 < length ps → onto_first x (ps ++ qs) ≡ onto_first x ps ++ qs
onto_first-append x [] qs some = absurd (omega arith)
onto_first-append x (p ∷ ps) qs some = refl

slice_split-append : {X : Type 0} (p : X → Bool) (xs : List X) (y : X) (ys : List X) → p y ≡ true → slice_split p (xs ++ y ∷ ys) ≡ slice_split p xs ++ slice_split p ys
slice_split-append p [] y ys is = slice_split-cons_yes p y ys is
slice_split-append p (x ∷ xs) y ys is = by (p x) refl (slice_split-append p xs y ys is)
  where
    by : (b : Bool) → p x ≡ b → slice_split p (xs ++ y ∷ ys) ≡ slice_split p xs ++ slice_split p ys → slice_split p ((x ∷ xs) ++ y ∷ ys) ≡ slice_split p (x ∷ xs) ++ slice_split p ys
    by true e rest = slice_split-cons_yes p x (xs ++ y ∷ ys) e ∙ ap (λ ps. [] ∷ ps) rest ∙ sym (ap (λ ps. ps ++ slice_split p ys) (slice_split-cons_yes p x xs e))
    by false e rest =
        slice_split-cons_no p x (xs ++ y ∷ ys) e ∙ ap (onto_first x) rest ∙ onto_first-append x (slice_split p xs) (slice_split p ys) (omega (arith, length-slice_split p xs))
        ∙ sym (ap (λ ps. ps ++ slice_split p ys) (slice_split-cons_no p x xs e))

pub input_lines-cut : (front back : List ℕ) → input_lines (front ++ 10 ∷ back) ≡ input_lines front ++ input_lines back
input_lines-cut front back = slice_split-append is_line_feed front 10 back refl

-- there is at most one line more than bytes
pub few_input_lines : (bytes : List ℕ) → length (input_lines bytes) ≤ length bytes + 1
few_input_lines bytes = omega (arith, length-slice_split is_line_feed bytes, count_by-le-length is_line_feed bytes)

-- ---- what a front says and then what the back after it says

pub both_said-assoc : (a b c : Result (List Line) LineFault) → both_said a (both_said b c) ≡ both_said (both_said a b) c
both_said-assoc (Ok xs) (Ok ys) (Ok zs) = ap Ok (sym (append_assoc xs ys zs))
both_said-assoc (Ok xs) (Ok ys) (Err e) = refl
both_said-assoc (Ok xs) (Err e) c = refl
both_said-assoc (Err e) b c = refl

lines_said_from-append : (n : ℕ) (xs ys : List (List ℕ)) → lines_said_from n (xs ++ ys) ≡ both_said (lines_said_from n xs) (lines_said_from (n + length xs) ys)
lines_said_from-append n [] ys =
    let same : n ≡ n + 0 = omega arith in
    sym (both_said-nil (lines_said_from n ys)) ∙ ap (λ k. both_said (Ok []) (lines_said_from k ys)) same
lines_said_from-append n (x ∷ xs) ys =
    let same : n + 1 + length xs ≡ n + length (x ∷ xs) = omega arith in
    lines_said_from-cons n x (xs ++ ys)
    ∙ ap (both_said (lines_said_from n (x ∷ []))) (lines_said_from-append (n + 1) xs ys)
    ∙ both_said-assoc (lines_said_from n (x ∷ [])) (lines_said_from (n + 1) xs) (lines_said_from (n + 1 + length xs) ys)
    ∙ ap (λ said. both_said said (lines_said_from (n + 1 + length xs) ys)) (sym (lines_said_from-cons n x xs))
    ∙ ap (λ k. both_said (lines_said_from n (x ∷ xs)) (lines_said_from k ys)) same

-- two pieces say what the whole says
pub both_pieces : (n : ℕ) (front back : List ℕ) → lines_said_from n (input_lines (front ++ 10 ∷ back))
    ≡ both_said (lines_said_from n (input_lines front)) (lines_said_from (n + length (input_lines front)) (input_lines back))
both_pieces n front back = ap (lines_said_from n) (input_lines-cut front back) ∙ lines_said_from-append n (input_lines front) (input_lines back)

-- a reading of two pieces of bytes is one of the bytes
pub pieces_read : (n : ℕ) (bytes front back : List ℕ) (r : Result LinesRead LineError) → bytes ≡ front ++ 10 ∷ back
    → IsNumberedReading (both_said (lines_said_from n (input_lines front)) (lines_said_from (n + length (input_lines front)) (input_lines back))) (n + length (input_lines front) + length (input_lines back)) r
    → IsReadingFrom n bytes r
pieces_read n bytes front back r cut reading =
    let whole = ap (λ xs. lines_said_from n (input_lines xs)) cut ∙ both_pieces n front back in
    let lines = ap length (ap input_lines cut ∙ input_lines-cut front back) ∙ length-append (input_lines front) (input_lines back) in
    let next : n + length (input_lines bytes) ≡ n + length (input_lines front) + length (input_lines back) = omega (arith, lines) in
    rw (whole, next) reading
