use Rattle.std.proofs.Common.{◌≡◌, ◌++◌, List, map, option_copied, option_map}
use Rattle.word_rows.specs.declared.entries.Entry.{Entry}
use Rattle.step_core.specs.StepLines.{all_values, entry_of, line_words}
use Rattle.step_core.specs.LinesLeft.{parts_left, room_left}
use Rattle.step_core.proofs.WordLemmas.{is_space}
use Rattle.step_core.proofs.rows.read_row.Given as goal

-- the entries so far, followed by those of the words still to be read, are those of the whole text
abbrev pub invariant-entries : goal.invariant-entries
invariant-entries l = option_map (λ (more : List Entry). l.entries.items ++ more) (all_values (map entry_of (parts_left is_space (option_copied l.left)))) ≡ all_values (map entry_of (line_words l.text))

abbrev pub decreases-entries : goal.decreases-entries
decreases-entries l = room_left (option_copied l.left)
