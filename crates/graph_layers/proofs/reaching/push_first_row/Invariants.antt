use Rattle.graph_layers.specs.inner.Chains.{HasRow, starts}
use Rattle.graph_layers.proofs.reaching.push_first_row.Given as goal

-- the entries so far were appended
abbrev pub invariant-columns : goal.invariant-columns
invariant-columns l = HasRow l.column (starts l.pairs l.row) l.fn.matrix.items l.matrix.items
