use Rattle.model_meet.proofs.TellingLemmas.{iff_then, refuted_unordered, tested}
use Rattle.trace_types.specs.Parts.{by_number}
use Rattle.trace_types.specs.Refuting.{RefutesApart}
use Rattle.model_meet.proofs.model.Model.together.Goals as goal

pub returns-clause-told : goal.returns-clause-told
returns-clause-told c = λ traces s.
    let same = refuted_unordered (RefutesApart by_number) (c.relations_are_symmetric.ensures.apart by_number) c.rising-low.result.0 c.rising-low.result.1 c.args.a c.args.b c.rising-low.ensures.low c.rising-low.ensures.high traces in
    tested c.bit.result _ 0 c.bit.ensures.value (iff_then (c.bit.ensures.told traces s).refuted same)
