use Rattle.std.proofs.Common.{slice_range}
use Rattle.batch_sheets.specs.inner.Judging.{AreJudgedSoFar}
use Rattle.batch_sheets.proofs.judging.judge_range.Given as goal

-- the traces so far are judged
abbrev pub invariant-loop-index : goal.invariant-loop-index
invariant-loop-index l = AreJudgedSoFar l.gathered.texts (slice_range l.gathered.traces l.start l.index) l.judged
