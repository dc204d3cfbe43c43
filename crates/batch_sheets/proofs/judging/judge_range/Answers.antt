use Rattle.std.proofs.Common.{◌+◌, slice_range, subst, arith}
use Rattle.event_table.specs.Texts.{TextLists}
use Rattle.batch_sheets.specs.inner.Judging.{Judges}
use Rattle.batch_sheets.proofs.JudgeLemmas.{so_far_next}
use Rattle.batch_sheets.proofs.RangeLemmas.{range_next}
use Rattle.batch_sheets.proofs.judging.judge_range.Goals as goal

pub loop-index-preserved : goal.loop-index-preserved
loop-index-preserved c =
    let at = c.loop-index in
    let gathered = c.args.gathered.now in
    let raw = c.trace.result.trace in
    so_far_next gathered.texts (slice_range gathered.traces c.args.start at.index) (slice_range gathered.traces c.args.start (at.index + 1)) raw at.judged c.judge.new.judged
    (range_next gathered.traces c.args.start at.index raw (omega arith) c.trace.ensures.trace) at.invariant
    (subst (λ (t : TextLists). Judges t raw at.judged c.judge.new.judged) c.trace.ensures.texts c.in_ok-judge.ensures)
