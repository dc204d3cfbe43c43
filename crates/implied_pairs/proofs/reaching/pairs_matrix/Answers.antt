use Rattle.std.proofs.Common.{get_or, refl, arith}
use Rattle.implied_pairs.proofs.ImplyLemmas.{numbers_more, numbers_none, pairs_more}
use Rattle.implied_pairs.proofs.reaching.pairs_matrix.Goals as goal

pub pairs-preserved : goal.pairs-preserved
pairs-preserved c = pairs_more c.args.count c.args.pairs.now c.requires.below c.pairs.pair-index c.pairs.matrix.items (get_or c.args.pairs.now c.pairs.pair-index (0, 0)) (omega (arith, c.pairs-test.true)) refl c.pairs.invariant

pub numbers-init : goal.numbers-init
numbers-init c = numbers_none c.args.count c.args.pairs.now c.pairs.pair-index c.pairs.matrix.items (omega (arith, c.pairs-test.false)) c.pairs.invariant

pub numbers-preserved : goal.numbers-preserved
numbers-preserved c = numbers_more c.args.count c.args.pairs.now c.requires.below c.numbers.number c.numbers.matrix.items (omega (arith, c.numbers-test.true)) c.numbers.invariant
