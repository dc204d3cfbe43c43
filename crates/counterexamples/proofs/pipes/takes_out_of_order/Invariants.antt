use Rattle.counterexamples.proofs.OrderLemmas.{AreInOrder}
use Rattle.counterexamples.proofs.pipes.takes_out_of_order.Given as goal

abbrev pub invariant-segments : goal.invariant-segments
invariant-segments l = AreInOrder l.trace l.from l.to l.index l.greatest
