use Rattle.std.proofs.Common.{ℕ, ◌-◌, ◌/◌, slice_range, rules, arith}
use Rattle.batch_sheets.specs.inner.Judging.{AreJudgedSoFar}
use Rattle.batch_sheets.proofs.JudgeLemmas.{joined_parts}
use Rattle.batch_sheets.proofs.RangeLemmas.{range_join}
use Rattle.batch_sheets.proofs.judging.+fn-judge_parts-join+arg3+judge_parts.Goals as goal

pub returns : goal.returns
returns g t c =
    let gathered = c.args.gathered.now in
    let start = c.args.start in
    let end = c.args.end in
    let middle : ℕ = c.args.end - (c.args.end - c.args.start) / c.args.parts in
    let early : AreJudgedSoFar gathered.texts (slice_range gathered.traces start middle) c.in_ok-front.field-0 = search rules in
    let late : AreJudgedSoFar gathered.texts (slice_range gathered.traces middle end) c.in_ok-back.field-0 = search rules in
    joined_parts gathered.texts (slice_range gathered.traces start end) (slice_range gathered.traces start middle) (slice_range gathered.traces middle end) c.in_ok-front.field-0 c.in_ok-back.field-0 c.join_parts.result
    (range_join gathered.traces start middle end (omega arith) (omega arith)) early late c.join_parts.ensures.valid c.join_parts.ensures.refused
