use Rattle.std.proofs.Common.{◌≡◌, drop}
use Rattle.word_rows.specs.Rows.{is_ascending}
use Rattle.word_rows.proofs.RowLemmas.{goes_on}
use Rattle.word_rows.proofs.entries.ascends.Given as goal

abbrev pub invariant-loop-entry : goal.invariant-loop-entry
invariant-loop-entry l = goes_on l.least (drop l.entry-index l.entries) ≡ is_ascending l.entries
