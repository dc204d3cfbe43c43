use Rattle.std.proofs.Common.{◌-◌}
use Rattle.batch_sheets.proofs.judging.+fn-judge_parts-join+arg3+judge_parts.Given as goal

abbrev pub decreases-judge_parts : goal.decreases-judge_parts
decreases-judge_parts g l = l.parts

abbrev pub decreases-join+arg3 : goal.decreases-join+arg3
decreases-join+arg3 g l = l.parts - 1
