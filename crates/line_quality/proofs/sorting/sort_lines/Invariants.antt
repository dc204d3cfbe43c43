use Rattle.std.proofs.Common.{◌-◌, length}
use Rattle.line_quality.specs.inner.Sorting.{IsSorted}
use Rattle.line_quality.proofs.sorting.sort_lines.Given as goal

-- the lines so far were sorted
abbrev pub invariant-bad : goal.invariant-bad
invariant-bad g l = IsSorted l.file l.bytes l.text.items l.fn.findings l.findings l.at l.number

abbrev pub decreases-bad : goal.decreases-bad
decreases-bad g l = length l.bytes - l.at
