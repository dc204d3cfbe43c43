use Rattle.std.proofs.Common.{ap, arith, ◌+◌, ◌∙◌}
use Rattle.std.specs.Prelude.{min}
use Rattle.graph_picture.specs.Boxes.{time_in}
use Rattle.graph_picture.proofs.CapLemmas.{capped_done, capped_more}
use Rattle.graph_picture.proofs.shares.capped_time.Goals as goal

pub segments-preserved : goal.segments-preserved
segments-preserved c = record {
  told = capped_more (time_in c.args.boxes.now c.args.row.now) c.args.segments.now c.segments.segment-index c.segment-item.result c.args.most c.segments.time c.min-time.result c.segments-test.true c.segment-item.is c.segments.invariant.told
      (c.min-time.ensures ∙ ap (λ n. min (c.segments.time + n) c.args.most) c.time_in.ensures.value);
  within = omega (arith, c.min-time.ensures);
}

pub returns-clause-value : goal.returns-clause-value
returns-clause-value c = capped_done (time_in c.args.boxes.now c.args.row.now) c.args.segments.now c.segments.segment-index c.args.most c.segments.time c.segments-test.false c.segments.invariant.told
