use Rattle.std.proofs.Common.{arith}
use Rattle.graph_layers.specs.inner.Chains.{passes}
use Rattle.graph_layers.proofs.ReachLemmas.{rows_done, rows_more, rows_none}
use Rattle.graph_layers.proofs.reaching.next_matrix.Goals as goal

pub rows-init : goal.rows-init
rows-init c = rows_none c.args.count (passes c.args.count c.args.matrix.now c.args.through) c.in_ok-next.next.items c.in_ok-next.ensures.items

pub rows-preserved : goal.rows-preserved
rows-preserved c = rows_more c.args.count c.rows.row (passes c.args.count c.args.matrix.now c.args.through) c.rows.next.items c.push_next_row.new.next.items c.rows.invariant c.in_ok-push_next_row.ensures

pub returns : goal.returns
returns c = rows_done c.args.count c.rows.row (passes c.args.count c.args.matrix.now c.args.through) c.rows.next.items (omega (arith, c.rows-test.false, c.rows.auto.row-end)) c.rows.invariant
