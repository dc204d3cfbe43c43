use Rattle.std.proofs.Common.{take}
use Rattle.model_checks.specs.inner.Answers.{AreAnswers}
use Rattle.model_checks.proofs.refuted.refuted_row.Given as goal

abbrev pub invariant-loop-at : goal.invariant-loop-at
invariant-loop-at l = AreAnswers (take l.at l.traces) l.first l.names l.row.items
