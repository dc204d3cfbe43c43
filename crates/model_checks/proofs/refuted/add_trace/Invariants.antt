use Rattle.model_checks.proofs.AnswerLemmas.{AreAnswersTo}
use Rattle.model_checks.proofs.refuted.add_trace.Given as goal

abbrev pub invariant-loop-place : goal.invariant-loop-place
invariant-loop-place l = AreAnswersTo l.traces l.at l.place l.first l.names l.row
