use Rattle.std.proofs.Common.{◌≡◌, take}
use Rattle.std.specs.List.{count_by}
use Rattle.import_run.specs.CommandLines.{is_dash}
use Rattle.import_run.proofs.command_line.count_standard_input.Given as goal

-- those so far
abbrev pub invariant-loop-word : goal.invariant-loop-word
invariant-loop-word l = l.count ≡ count_by is_dash (take l.word-index l.words)
