use Rattle.segment_cut.proofs.VerdictLemmas.{one_cut, one_fault, no_fault}
use Rattle.segment_cut.proofs.laws.a_trace_has_one_verdict.Goals as goal

pub returns-clause-trace : goal.returns-clause-trace
returns-clause-trace c = one_cut c.a_machine_has_one_offset.ensures

pub returns-clause-fault : goal.returns-clause-fault
returns-clause-fault c = one_fault c.a_machine_has_one_offset.ensures

pub returns-clause-not_both : goal.returns-clause-not_both
returns-clause-not_both c = no_fault c.a_machine_has_one_offset.ensures
