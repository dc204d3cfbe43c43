use Rattle.std.proofs.Common.{refl, ◌∙◌, ap, arith}
use Rattle.trace_rows.specs.inner.Pieces.{traces_of_pieces}
use Rattle.trace_rows.proofs.MadeLemmas.{pieces_more}
use Rattle.trace_rows.proofs.chunks.cut_pieces.Goals as goal

pub pieces-preserved : goal.pieces-preserved
pieces-preserved c = record {
  within = omega arith;
  so_far = ap traces_of_pieces c.in_ok-push.ensures.items ∙ pieces_more c.pieces.pieces.items _ c.args.traces.now c.pieces.at c.count_within.result c.pieces.invariant.so_far refl;
}
