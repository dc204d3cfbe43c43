use Rattle.model_meet.proofs.PairLineLemmas.{one_answer}
use Rattle.model_meet.proofs.model.Model.lists_pipe.Goals as goal

pub returns-then-shared-clause-told : goal.returns-then-shared-clause-told
returns-then-shared-clause-told c = λ traces s.
    let both = c.shared.ensures.told traces s in
    let one = c.pipe.ensures.told traces s in (
      (λ r. record { differ = c.requires.differ; shared = both.0 c.if-shared.true; survives = one.0 r }),
      (λ x. one.1 x.survives),
    )

pub returns-else-shared-clause-told : goal.returns-else-shared-clause-told
returns-else-shared-clause-told c = λ traces s.
    let both = c.shared.ensures.told traces s in (
      (λ r. absurd (one_answer c.shared.result c.if-shared.false r)),
      (λ x. both.1 x.shared),
    )
