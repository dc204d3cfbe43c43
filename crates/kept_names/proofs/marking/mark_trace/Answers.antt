use Rattle.kept_names.proofs.MarkLemmas.{marks_more}
use Rattle.kept_names.proofs.marking.mark_trace.Goals as goal

pub loop-segment-preserved : goal.loop-segment-preserved
loop-segment-preserved c = marks_more c.items-segment-items.result.now c.loop-segment.segment-index c.segment-item.result c.loop-segment-test.true c.segment-item.is c.args.marks.now c.loop-segment.marks c.mark_segment.new.marks c.loop-segment.invariant c.mark_segment.ensures
