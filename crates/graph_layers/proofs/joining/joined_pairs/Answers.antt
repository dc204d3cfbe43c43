use Rattle.std.proofs.Common.{arith}
use Rattle.graph_layers.proofs.ArrowLemmas.{join_done, join_none, join_row}
use Rattle.graph_layers.proofs.joining.joined_pairs.Goals as goal

pub rows-init : goal.rows-init
rows-init c = join_none c.args.count c.args.pairs.now c.args.matrix.now c.new-joined.result.items c.new-joined.ensures.items

pub rows-preserved : goal.rows-preserved
rows-preserved c = join_row c.args.count c.args.pairs.now c.args.matrix.now c.rows.first c.push_joined.new.joined.items c.in_ok-push_joined.ensures

pub returns : goal.returns
returns c = join_done c.args.count c.args.pairs.now c.requires.below c.args.matrix.now c.requires.matrix c.rows.first c.rows.joined.items (omega (arith, c.rows-test.false, c.rows.auto.first-end)) c.rows.invariant
