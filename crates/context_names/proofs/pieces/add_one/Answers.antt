use Rattle.context_names.proofs.NumberLemmas.{add_more}
use Rattle.context_names.proofs.pieces.add_one.Goals as goal

pub loop-number-preserved : goal.loop-number-preserved
loop-number-preserved c = add_more c.args.numbers.now c.loop-number.numbers c.loop-number.number-index c.loop-number-test.true c.loop-number.invariant
