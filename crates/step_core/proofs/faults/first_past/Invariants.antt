use Rattle.std.proofs.Common.{◌≡◌, drop}
use Rattle.std.specs.Prelude.{Option, Some, None, if◌then◌else◌, ℕ, List}
use Rattle.word_rows.specs.declared.entries.Entry.{Entry}
use Rattle.word_rows.specs.Rows.{below}
use Rattle.word_rows.specs.Machine.{first_past}
use Rattle.step_core.proofs.faults.first_past.Given as goal

-- the first word past the width, or none where all words are below it
abbrev past : ℕ → List Entry → Option ℕ
past width row = if below width row then None else Some (first_past width row)

abbrev pub invariant-entries : goal.invariant-entries
invariant-entries l = past l.width (drop l.entry-index l.entries) ≡ past l.width l.entries
