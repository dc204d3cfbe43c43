use Rattle.std.proofs.Common.{arith}
use Rattle.graph_layers.specs.inner.Chains.{starts}
use Rattle.graph_layers.proofs.ReachLemmas.{rows_done, rows_more, rows_none}
use Rattle.graph_layers.proofs.reaching.first_matrix.Goals as goal

pub rows-init : goal.rows-init
rows-init c = rows_none c.args.count (starts c.args.pairs.now) c.in_ok-matrix.matrix.items c.in_ok-matrix.ensures.items

pub rows-preserved : goal.rows-preserved
rows-preserved c = rows_more c.args.count c.rows.row (starts c.args.pairs.now) c.rows.matrix.items c.push_first_row.new.matrix.items c.rows.invariant c.in_ok-push_first_row.ensures

pub returns : goal.returns
returns c = rows_done c.args.count c.rows.row (starts c.args.pairs.now) c.rows.matrix.items (omega (arith, c.rows-test.false, c.rows.auto.row-end)) c.rows.invariant
