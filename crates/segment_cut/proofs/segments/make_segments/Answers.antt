use Rattle.std.proofs.Common.{◌-◌, ◌+◌, sym, subst, List, arith}
use Rattle.segment_cut.specs.declared.cut_segment.CutSegment.{CutSegment}
use Rattle.segment_cut.specs.inner.Keys.{key_at}
use Rattle.segment_cut.proofs.SegmentLemmas.{AreSegmentsTo, segments_none, segments_same, segments_other, segments_all, key_le}
use Rattle.segment_cut.proofs.segments.make_segments.Goals as goal
use Rattle.segment_cut.proofs.segments.make_segments.Goals.{then-start-end+in_ok-push, else-start-end}

pub loop-at-init : goal.loop-at-init
loop-at-init c =
    let raw = c.args.trace.now in
    subst (λ (ss : List CutSegment). AreSegmentsTo raw.texts raw.trace.events c.args.keys.now 0 ss) (sym c.in_ok-segments.ensures.items) (segments_none raw.texts raw.trace.events c.args.keys.now)

pub make_segment-requires-clause-ordered : goal.make_segment-requires-clause-ordered
make_segment-requires-clause-ordered c = key_le (key_at c.args.keys.now (c.loop-at.at - 1)) (key_at c.args.keys.now c.loop-at.at) (c.requires.rising (c.loop-at.at - 1) c.loop-at.at (omega arith) (omega arith)) c.if-start-end.true

pub loop-at-preserved : goal.loop-at-preserved
loop-at-preserved c =
    let raw = c.args.trace.now in
    let at = c.loop-at.at in
    elim c.if-start-end.branch [
      | then-start-end+in_ok-push w ↦ rw (w.segments-is, w.in_ok-push.ensures.items)
          (segments_same raw.texts raw.trace.events c.args.keys.now (c.loop-at.at - 1) c.loop-at.at (c.loop-at.at + 1 - 1) c.loop-at.segments.items w.make_segment.result (omega arith) (omega arith) (omega arith) w.if-start-end.true c.loop-at.invariant w.make_segment.ensures.segment w.make_segment.ensures.texts)
      | else-start-end w ↦ rw w.segments-is
          (segments_other raw.texts raw.trace.events c.args.keys.now (c.loop-at.at - 1) c.loop-at.at (c.loop-at.at + 1 - 1) c.loop-at.segments.items (omega arith) (omega arith) (omega arith) w.if-start-end.false c.loop-at.invariant)
    ]

pub returns-clause-segments : goal.returns-clause-segments
returns-clause-segments c = segments_all c.args.trace.now.texts c.args.trace.now.trace.events c.args.keys.now (c.loop-at.at - 1) c.loop-at.segments.items (omega arith) c.loop-at.invariant
