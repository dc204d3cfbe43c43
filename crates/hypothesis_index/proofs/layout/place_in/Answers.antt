use Rattle.std.proofs.Common.{arith}
use Rattle.hypothesis_index.proofs.PairLemmas.{pair-below, pairs_below-512}
use Rattle.hypothesis_index.proofs.layout.place_in.Goals as goal

pub overflow_add-number : goal.overflow_add-number
overflow_add-number c = omega (arith, pair-below c.args.low c.args.high 512 c.requires.rises c.requires.small, pairs_below-512)
