use Rattle.std.proofs.Common.{get_or, refl, sym, ◌∙◌, arith}
use Rattle.std.proofs.lemmas.Bool.{false≢true}
use Rattle.task_sharings.proofs.StayLemmas.{none_outlasts_more, none_refutes, refuted_by}
use Rattle.task_sharings.proofs.staying.refutes_itself.Goals as goal

pub returns-then-outlasts : goal.returns-then-outlasts
returns-then-outlasts c = (
  (λ _. refuted_by c.args.trace.now c.args.task (get_or c.args.elements.now c.elements.index 0) (c.outlasts.ensures.0 c.if-outlasts.true)),
  (λ _. refl),
)

pub elements-preserved : goal.elements-preserved
elements-preserved c = none_outlasts_more c.args.trace.now c.args.task c.args.elements.now c.elements.index c.elements.invariant
    (λ h. false≢true (sym c.if-outlasts.false ∙ c.outlasts.ensures.1 h))

pub returns : goal.returns
returns c = (
  (λ h. absurd (false≢true h)),
  (λ h. absurd (none_refutes c.args.trace.now c.args.task c.args.elements.now c.elements.index c.requires (let f = c.elements-test.false in omega arith) c.elements.invariant h)),
)
