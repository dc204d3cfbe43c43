use Rattle.graph_layers.specs.inner.Chains.{HasRow, passes}
use Rattle.graph_layers.proofs.reaching.push_next_row.Given as goal

-- the entries so far were appended
abbrev pub invariant-columns : goal.invariant-columns
invariant-columns l = HasRow l.column (passes l.count l.matrix l.through l.row) l.fn.next.items l.next.items
