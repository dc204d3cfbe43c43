use Rattle.clock_offsets.proofs.ClockUniqueLemmas.{clocks_unique}
use Rattle.clock_offsets.proofs.laws.a_trace_has_its_clocks_in_one_way.Goals as goal

pub returns : goal.returns
returns c = λ events a b. clocks_unique events c.a_list_is_told_in_one_way.ensures.listed a b
