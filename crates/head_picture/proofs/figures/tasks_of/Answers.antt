use Rattle.head_picture.proofs.TaskLemmas.{segments_done, segments_next}
use Rattle.head_picture.proofs.figures.tasks_of.Goals as goal

pub segments-preserved : goal.segments-preserved
segments-preserved c = segments_next c.segments.seen.items _ _ c.args.segments.now c.segments.segment-index c.segment-item.result c.segments-test.true c.segment-item.is c.in_ok-add_segment.ensures c.segments.invariant

pub returns : goal.returns
returns c = segments_done c.segments.seen.items _ c.args.segments.now c.segments.segment-index c.segments-test.false c.segments.invariant
