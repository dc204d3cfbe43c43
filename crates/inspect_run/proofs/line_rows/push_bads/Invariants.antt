use Rattle.std.proofs.Common.{◌≡◌, ◌++◌, take}
use Rattle.std.specs.List.{flat_map}
use Rattle.inspect_run.specs.LineRows.{bad_row}
use Rattle.inspect_run.proofs.line_rows.push_bads.Given as goal

-- the rows so far were appended
abbrev pub invariant-loop-bad : goal.invariant-loop-bad
invariant-loop-bad l = l.text.items ≡ l.fn.text.items ++ flat_map (bad_row l.names) (take l.bad-index l.first)
