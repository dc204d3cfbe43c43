use Rattle.model_meet.proofs.TellingLemmas.{tested}
use Rattle.model_meet.proofs.model.Model.happens_before.Goals as goal

pub returns-clause-told : goal.returns-clause-told
returns-clause-told c = λ traces s. tested c.bit.result _ 1 c.bit.ensures.value (c.bit.ensures.told traces s).survives
