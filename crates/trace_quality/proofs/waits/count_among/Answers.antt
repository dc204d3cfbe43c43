use Rattle.std.proofs.Common.{arith, true, false, sym, ◌∙◌}
use Rattle.trace_quality.proofs.WaitLemmas.{waits_all, waits_more}
use Rattle.trace_quality.proofs.waits.count_among.Goals as goal
use Rattle.trace_quality.proofs.waits.count_among.Goals.{else-is_wait, then-is_wait}

pub segments-preserved : goal.segments-preserved
segments-preserved c = record {
  counted = elim c.if-is_wait.branch [
    | then-is_wait w ↦ waits_more c.args.raw.now c.args.segments.now c.segments.index c.segments.count c.index-segments-index.result c.if-is_wait.count true c.segments-test.true c.segments.invariant.counted c.index-segments-index.is (sym w.if-is_wait.true ∙ c.is_wait.ensures) w.count-is
    | else-is_wait w ↦ waits_more c.args.raw.now c.args.segments.now c.segments.index c.segments.count c.index-segments-index.result c.if-is_wait.count false c.segments-test.true c.segments.invariant.counted c.index-segments-index.is (sym w.if-is_wait.false ∙ c.is_wait.ensures) (omega (arith, w.count-is))
  ];
  few = elim c.if-is_wait.branch [
    | then-is_wait w ↦ omega (arith, c.segments.invariant.few, w.count-is)
    | else-is_wait w ↦ omega (arith, c.segments.invariant.few, w.count-is)
  ];
}

pub returns : goal.returns
returns c = waits_all c.args.raw.now c.args.segments.now c.segments.index c.segments.count c.segments-test.false c.segments.invariant.counted
