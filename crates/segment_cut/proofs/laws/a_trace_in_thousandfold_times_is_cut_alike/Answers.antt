use Rattle.segment_cut.proofs.ScalingLemmas.{cut_alike, valid_alike}
use Rattle.segment_cut.proofs.laws.a_trace_in_thousandfold_times_is_cut_alike.Goals as goal

pub returns-clause-alike : goal.returns-clause-alike
returns-clause-alike c = cut_alike c.a_machine_has_one_offset.ensures

pub returns-clause-valid : goal.returns-clause-valid
returns-clause-valid c = valid_alike c.a_machine_has_one_offset.ensures
