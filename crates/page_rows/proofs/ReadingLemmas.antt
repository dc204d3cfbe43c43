-- Lines that were read, one after another.
use Rattle.std.proofs.Common.{◌≡◌, ℕ, ◌+◌, ◌<◌, ◌≤◌, ◌==◌, List, [], ◌∷◌, ◌++◌, length, drop, get_or, true, Bor, Result, Ok, Err, refl, sym, ap, subst, ◌∙◌, arith, add-one}
use Rattle.std.specs.Prelude.{if◌then◌else◌}
use Rattle.std.proofs.Math.Seq.{drop-cons}
use Rattle.std.proofs.lemmas.List.{append-nil, length-map}
use Rattle.std.proofs.lemmas.List.Sums.{count_by-le-length}
use Rattle.std.proofs.lemmas.List.Splits.{length-slice_split}
use Rattle.page_rows.specs.declared.page_error.PageError.{PageError}
use Rattle.page_rows.specs.declared.page_error.PageError.TheVariants.{Memory, Bad}
use Rattle.page_rows.specs.declared.row.Row.{Row}
use Rattle.page_rows.specs.Fields.{text_lines, texts_of}
use Rattle.page_rows.specs.Pages.{IsPageError, LineFault, PageLists, after_rows, placed_row, row_then, rows_said, with_row, with_rows}
use Rattle.page_rows.specs.Rows.{row_said, stage_of}
use Rattle.page_rows.specs.inner.Steps.{FailsAtLine, ReadsLine}

pub after_none : (said : Result (List Row) LineFault) → after_rows [] said ≡ said
after_none (Ok more) = refl
after_none (Err fault) = refl

-- an empty line says nothing
pub empty_line : (before number : ℕ) (line : List ℕ) (rows : List Row) → (length line == 0) ≡ true → ReadsLine before number line before rows rows
empty_line before number line rows e = record {
  rows = [];
  appended = sym (append-nil rows);
  told = λ lines.
      ap (λ b. if b then rows_said before (number + 1) lines
      else row_then (placed_row before number (row_said line)) (λ row. after_rows (row ∷ []) (rows_said (stage_of row) (number + 1) lines))) e
      ∙ sym (after_none (rows_said before (number + 1) lines));
}

-- a fault behind rows is the fault of all
pub fails_after : (rows : List Row) (said all : Result (List Row) LineFault) (e : PageError) → all ≡ after_rows rows said → IsPageError said e → IsPageError all e
fails_after rows said all Memory told h = tt
fails_after rows said all (Bad line why) told h = told ∙ ap (after_rows rows) h

-- the lines from here on begin with this one
next_line : (lines : List (Bor (List ℕ))) (i : ℕ) (line : Bor (List ℕ)) → i < length lines → texts_of (drop i lines) ≡ (get_or lines i line).now ∷ texts_of (drop (i + 1) lines)
next_line lines i line lt = rw (add-one, drop-cons lines i line lt) refl

pub fails_at : (lines : List (Bor (List ℕ))) (i before number : ℕ) (rows : List Row) (line : Bor (List ℕ)) (e : PageError) → i < length lines → rows_said 0 1 (texts_of lines) ≡ after_rows rows (rows_said before number (texts_of (drop i lines))) → FailsAtLine before number (get_or lines i line).now e
    → IsPageError (rows_said 0 1 (texts_of lines)) e
fails_at lines i before number rows line e lt told h =
    fails_after rows _ _ e told (subst (λ ls. IsPageError (rows_said before number ls) e) (sym (next_line lines i line lt)) (h (texts_of (drop (i + 1) lines))))

-- a text has no more lines than bytes, and one
pub lines_few : (text : List ℕ) (parts : List (Bor (List ℕ))) → texts_of parts ≡ text_lines text → length parts ≤ length text + 1
lines_few text parts e =
    omega (arith, length-map parts (λ (p : Bor (List ℕ)). p.now), ap length e, length-slice_split (λ byte. byte == 10) text, count_by-le-length (λ byte. byte == 10) text)

-- one row more
pub rows_more : (p : PageLists) (rows : List Row) (row : Row) → with_rows p (rows ++ row ∷ []) ≡ with_row (with_rows p rows) row
rows_more p [] row = refl
rows_more p (x ∷ rows) row = rows_more (with_row p x) rows row
