use Rattle.std.proofs.Common.{◌≡◌, length}
use Rattle.line_checks.proofs.rows.made.Given as goal

-- one span a row so far
abbrev pub invariant-loop-row : goal.invariant-loop-row
invariant-loop-row l = length l.spans.items ≡ l.row-index
