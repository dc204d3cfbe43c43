-- One line more of a text.
use Rattle.std.specs.Prelude.{ℕ, ◌≡◌, ◌+◌, List, ◌∷◌, ◌++◌}
use Rattle.page_rows.specs.declared.page_error.PageError.{PageError}
use Rattle.page_rows.specs.declared.row.Row.{Row}
use Rattle.page_rows.specs.Pages.{IsPageError, after_rows, rows_said}

-- a line behind a row was read: what it says was appended, and the last row stands here
pub record ReadsLine (before number : ℕ) (line : List ℕ) (next : ℕ) (old new : List Row)
    : Type 0 where
  pub rows : List Row
  pub appended : new ≡ old ++ rows
  pub told : (lines : List (List ℕ))
      → rows_said before number (line ∷ lines) ≡ after_rows rows (rows_said next (number + 1) lines)

-- a line behind a row was not read
abbrev pub FailsAtLine : (before number : ℕ) → List ℕ → PageError → Type 0
FailsAtLine before number line error =
    (lines : List (List ℕ)) → IsPageError (rows_said before number (line ∷ lines)) error
