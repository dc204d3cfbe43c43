use Rattle.model_meet.proofs.PairLineLemmas.{one_answer}
use Rattle.model_meet.proofs.model.Model.lists_order.Goals as goal

pub returns-then-together-clause-told : goal.returns-then-together-clause-told
returns-then-together-clause-told c = λ traces s.
    let both = c.together.ensures.told traces s in
    let one = c.happens_before.ensures.told traces s in (
      (λ r. record { differ = c.requires.differ; together = both.0 c.if-together.true; survives = one.0 r }),
      (λ x. one.1 x.survives),
    )

pub returns-else-together-clause-told : goal.returns-else-together-clause-told
returns-else-together-clause-told c = λ traces s.
    let both = c.together.ensures.told traces s in (
      (λ r. absurd (one_answer c.together.result c.if-together.false r)),
      (λ x. both.1 x.together),
    )
