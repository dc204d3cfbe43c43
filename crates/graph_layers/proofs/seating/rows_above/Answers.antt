use Rattle.std.proofs.Common.{length, arith}
use Rattle.graph_layers.proofs.SeatLemmas.{rows_more}
use Rattle.graph_layers.proofs.seating.rows_above.Goals as goal

pub layers-preserved : goal.layers-preserved
layers-preserved c =
    let more = rows_more (length c.args.layers.now) c.args.layers.now c.layers.above in
    record {
      value = omega (arith, more, c.layers.invariant.value, c.size_of.ensures.value);
      small = omega (arith, c.layers.invariant.small, c.size_of.ensures.small);
    }
