use Rattle.std.proofs.Common.{◌≡◌, length, subst, arith}
use Rattle.graph_layers.specs.inner.Seats.{widest_of}
use Rattle.graph_layers.proofs.SeatLemmas.{widest_more, widest_most}
use Rattle.graph_layers.proofs.placing.widest_of.Goals as goal

pub boxes-preserved : goal.boxes-preserved
boxes-preserved c =
    let more = widest_more c.args.layers.now c.boxes.one in
    omega (arith, more, c.boxes.invariant, c.size_of.ensures.value, c.min.ensures, c.max-widest.ensures)

pub returns-clause-value : goal.returns-clause-value
returns-clause-value c =
    let last : c.boxes.one ≡ length c.args.layers.now = omega (arith, c.boxes-test.false, c.boxes.auto.one-end) in
    subst (λ k. c.boxes.widest ≡ widest_of c.args.layers.now k) last c.boxes.invariant

pub returns-clause-most : goal.returns-clause-most
returns-clause-most c = omega (arith, widest_most c.args.layers.now c.boxes.one, c.boxes.invariant)
