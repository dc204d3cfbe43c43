-- What holds of the words and of every view, live or not, between any two steps.
use Rattle.std.specs.Prelude.{◌≡◌, ℕ, ◌<◌, ◌⊎◌, true, List, [], length, IsTrue}
use Rattle.word_rows.specs.declared.views.View.{View}
use Rattle.word_rows.specs.Rows.{rows_clear, below, rows_below}
use Rattle.word_rows.specs.Words.{bit_of}
use Rattle.word_rows.specs.Accounts.{Each, view_clears, views_clear, lacks, readings_below, total_shares, AreZero}
use Rattle.word_rows.specs.Changes.{is_idle}

-- no row is in progress, or one of which at least one entry is cleared and at least one is not
abbrev pub IsPartWay : View → Type 0
IsPartWay v = IsTrue (is_idle v) ⊎ ((0 < v.cleared) × (v.cleared < length v.row))

-- all words that the view's rows and readings name are below the width
pub record IsBelow (width : ℕ) (v : View) : Type 0 where
  pub done : rows_below width v.done ≡ true
  pub row : below width v.row ≡ true
  pub seen : rows_below width v.seen ≡ true
  pub readings : readings_below width v.readings ≡ true

pub record IsSound (words : List ℕ) (all : ℕ) (views : List View) : Type 0 where
  -- each bit that is 0 is one of a done row, or of a cleared entry of a row in progress, of some
  -- view
  pub accounted : (i b : ℕ) → i < length words → b < 64 → bit_of words i b ≡ 0
      → views_clear views i b ≡ true
  -- each bit of a done row, or of a cleared entry, of any view is 0
  pub cleared : Each (λ v. AreZero words (view_clears v)) views
  -- the shares of all views add up to the number at opening
  pub shared_out : total_shares views ≡ all
  -- a view with no share has no done row and no row in progress
  pub idle : Each (λ v. v.shares ≡ 0 → (v.done ≡ []) × (v.row ≡ [])) views
  -- a reading has every bit that its word has now
  pub kept : Each (λ v. AreZero words (lacks v.readings)) views
  -- each bit that a reading lacks is one of a done row or of a cleared entry of some view
  pub found : Each (λ v. (i b : ℕ) → i < length words → b < 64 → lacks v.readings i b ≡ true
      → views_clear views i b ≡ true) views
  -- each bit of a seen row of any view is 0
  pub seen : Each (λ v. AreZero words (rows_clear v.seen)) views
  -- a row in progress has a cleared entry and one that is not
  pub progress : Each IsPartWay views
  -- all words that rows and readings name are below the width
  pub named : Each (IsBelow (length words)) views
