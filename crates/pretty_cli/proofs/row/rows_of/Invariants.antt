use Rattle.pretty_cli.proofs.RowLemmas.{AreRowsSoFar}
use Rattle.pretty_cli.proofs.row.rows_of.Given as goal

-- the rows of the lines so far
abbrev pub invariant-lines : goal.invariant-lines
invariant-lines l = AreRowsSoFar l.lines l.line-index l.context l.rows.items
