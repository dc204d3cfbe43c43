use Rattle.model_meet.proofs.TellingLemmas.{iff_then, survive_unordered, tested}
use Rattle.trace_types.specs.Parts.{by_number}
use Rattle.trace_types.specs.Refuting.{RefutesExclusive}
use Rattle.model_meet.proofs.model.Model.exclusive.Goals as goal

pub returns-clause-told : goal.returns-clause-told
returns-clause-told c = λ traces s.
    let same = survive_unordered (RefutesExclusive by_number) (c.relations_are_symmetric.ensures.exclusive by_number) c.rising-low.result.0 c.rising-low.result.1 c.args.a c.args.b c.rising-low.ensures.low c.rising-low.ensures.high traces in
    tested c.exclusion_bit.result _ 1 c.exclusion_bit.ensures.value (iff_then (c.exclusion_bit.ensures.told traces s).survives same)
