use Rattle.std.proofs.Common.{arith}
use Rattle.graph_layers.specs.inner.Chains.{starts}
use Rattle.graph_layers.proofs.ReachLemmas.{row_done, row_more, row_none}
use Rattle.graph_layers.proofs.reaching.push_first_row.Goals as goal

pub columns-init : goal.columns-init
columns-init c = row_none (starts c.args.pairs.now c.args.row) c.args.matrix.now.items

pub columns-preserved : goal.columns-preserved
columns-preserved c = row_more c.columns.column (starts c.args.pairs.now c.args.row) c.args.matrix.now.items c.columns.matrix.items c.push.new.self.items c.starts.result c.columns.invariant c.starts.ensures c.in_ok-push.ensures.items

pub returns : goal.returns
returns c = row_done c.columns.column c.args.count (starts c.args.pairs.now c.args.row) c.args.matrix.now.items c.columns.matrix.items (omega (arith, c.columns-test.false, c.columns.auto.column-end)) c.columns.invariant
