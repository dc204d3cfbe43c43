use Rattle.summary_laws.proofs.PartLemmas.{OneVerdict, parts_print}
use Rattle.summary_laws.proofs.laws.parts_print_what_the_whole_prints.Goals as goal

pub returns : goal.returns
returns c =
    let verdict : OneVerdict = record { trace = c.a_trace_has_one_verdict.ensures.trace; fault = c.a_trace_has_one_verdict.ensures.fault; not_both = c.a_trace_has_one_verdict.ensures.not_both } in
    parts_print verdict c.traces_are_those_of_parts.ensures
