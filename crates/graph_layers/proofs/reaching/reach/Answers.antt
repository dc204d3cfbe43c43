use Rattle.std.proofs.Common.{arith}
use Rattle.graph_layers.proofs.ReachLemmas.{matrix_done, matrix_more, matrix_start}
use Rattle.graph_layers.proofs.reaching.reach.Goals as goal

pub through-init : goal.through-init
through-init c = matrix_start c.args.count c.args.pairs.now c.requires.below c.in_ok-matrix.matrix.items c.in_ok-matrix.ensures

pub through-preserved : goal.through-preserved
through-preserved c =
    matrix_more c.args.count c.args.pairs.now c.requires.below c.through.through c.through.matrix.items _ _ (omega (arith, c.through-test.true)) c.through.invariant c.deref.ensures.value c.in_ok-matrix-2.ensures

pub returns : goal.returns
returns c = matrix_done c.args.count c.args.pairs.now c.requires.below c.through.through c.through.matrix.items (omega (arith, c.through-test.false)) c.through.invariant
