use Rattle.std.proofs.Common.{arith}
use Rattle.tail_picture.proofs.ordering.mean_amount.Goals as goal

pub of-requires : goal.of-requires
of-requires c = omega (arith, c.mean_of.ensures.most, c.get.ensures.small)
