use Rattle.std.proofs.Common.{◌≡◌, ◌++◌, take}
use Rattle.std.specs.List.{flat_map}
use Rattle.inspect_run.specs.LineRows.{count_reason, reason_row}
use Rattle.inspect_run.proofs.line_rows.push_each.Given as goal

-- the rows so far were appended
abbrev pub invariant-loop-why : goal.invariant-loop-why
invariant-loop-why l = l.text.items ≡ l.fn.text.items ++ flat_map (λ why. reason_row l.filled why (count_reason l.reasons why)) (take l.why-index l.whys)
