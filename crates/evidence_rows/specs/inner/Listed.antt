-- Rows of two names that were listed.
use Rattle.std.specs.Prelude.{◌≡◌, ℕ, Bool, List}
use Rattle.evidence_rules.specs.EvidenceRows.{AreBySupport, AreOrdersLeft, Listing, rows_where}
use Rattle.evidence_rules.specs.declared.between.Between.{Between}
use Rattle.evidence_rules.specs.declared.pair_row.PairRow.{PairRow}
use Rattle.name_rows.specs.Kinds.{traces_of}

-- they are the rows that some figures of so many names tell
pub record AreListed (names : ℕ) (rows : List (PairRow Between)) : Type 0 where
  pub between : ℕ → ℕ → Between
  pub is : Listing Between
  pub listed : rows ≡ rows_where between is names

-- they are those of listed orders that are printed, by support
pub record AreOrdersBySupport (reduced : Bool) (rows sorted : List (PairRow Between))
    : Type 0 where
  pub left : List (PairRow Between)
  pub are_left : AreOrdersLeft reduced rows left
  pub by_support : AreBySupport traces_of left sorted
