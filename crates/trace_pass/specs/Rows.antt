-- The rows of recorded traces, and what readings of them may lack.
use Rattle.std.specs.Prelude.{◌≡◌, ℕ, ◌<◌, true, List}
use Rattle.hypothesis_index.specs.Places.{width_of}
use Rattle.pipeline_tests.specs.Rows.{AreWholeRows}
use Rattle.refute_tests.specs.Survivors.{IsRefutedPlace}
use Rattle.trace_types.specs.declared.named_trace.NamedTrace.{NamedTrace}
use Rattle.word_rows.specs.declared.entries.Entry.{Entry}
use Rattle.word_rows.specs.declared.views.Reading.{Reading}
use Rattle.word_rows.specs.Accounts.{lacks}
use Rattle.word_rows.specs.Rows.{rows_below}

-- these are the whole rows of the traces, and all stand in the words of so many names
pub record AreRowsWithin (names : ℕ) (traces : List NamedTrace)
    (rows : List (List Entry)) : Type 0 where
  pub whole : AreWholeRows traces rows
  pub within : rows_below (width_of names) rows ≡ true

-- each bit that a reading lacks is the place of a relation that some trace of the list refutes
abbrev pub LackOnlyRefuted : List Reading → List NamedTrace → Type 0
LackOnlyRefuted readings traces = (i b : ℕ) → b < 64 → lacks readings i b ≡ true
    → IsRefutedPlace traces i b
