use Rattle.std.proofs.Common.{arith}
use Rattle.hypothesis_index.proofs.PairLemmas.{pairs_below-one, pairs_below-step}
use Rattle.hypothesis_index.proofs.pairs.unpair.Goals as goal

pub loop-high-init : goal.loop-high-init
loop-high-init c = record { same = omega (arith, pairs_below-one); some = omega arith; near = omega arith }

pub loop-high-preserved : goal.loop-high-preserved
loop-high-preserved c = record {
  same = omega (arith, pairs_below-step c.loop-high.high);
  some = omega arith;
  near = omega arith;
}
