use Rattle.std.proofs.Common.{◌||◌, ap, ◌∙◌}
use Rattle.zipkin_spans.specs.Halves.{is_half}
use Rattle.zipkin_spans.specs.inner.Sides.{is_side}
use Rattle.zipkin_spans.proofs.HalfLemmas.{one_more}
use Rattle.zipkin_spans.proofs.halves.ids_of_side.Goals as goal

pub loop-placed-preserved : goal.loop-placed-preserved
loop-placed-preserved c = λ q.
    c.in_ok-add_id.ensures q ∙ ap (λ b. b || is_half (is_side c.args.side) q c.placed-item.result) (c.loop-placed.invariant q)
    ∙ one_more c.args.side c.args.spans.now c.loop-placed.placed-index c.placed-item.result q c.loop-placed-test.true c.placed-item.is
