use Rattle.std.proofs.Common.{arith}
use Rattle.graph_layers.specs.inner.Chains.{passes}
use Rattle.graph_layers.proofs.ReachLemmas.{row_done, row_more, row_none}
use Rattle.graph_layers.proofs.reaching.push_next_row.Goals as goal

pub columns-init : goal.columns-init
columns-init c = row_none (passes c.args.count c.args.matrix.now c.args.through c.args.row) c.args.next.now.items

pub columns-preserved : goal.columns-preserved
columns-preserved c = row_more c.columns.column (passes c.args.count c.args.matrix.now c.args.through c.args.row) c.args.next.now.items c.columns.next.items c.push.new.self.items c.passes.result c.columns.invariant c.passes.ensures c.in_ok-push.ensures.items

pub returns : goal.returns
returns c = row_done c.columns.column c.args.count (passes c.args.count c.args.matrix.now c.args.through c.args.row) c.args.next.now.items c.columns.next.items (omega (arith, c.columns-test.false, c.columns.auto.column-end)) c.columns.invariant
