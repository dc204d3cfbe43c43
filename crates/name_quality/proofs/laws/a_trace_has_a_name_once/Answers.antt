use Rattle.name_quality.proofs.AloneLemmas.{all_differ, counted, names_differ}
use Rattle.name_quality.proofs.laws.a_trace_has_a_name_once.Goals as goal

pub returns-clause-once : goal.returns-clause-once
returns-clause-once c = names_differ

pub returns-clause-counted : goal.returns-clause-counted
returns-clause-counted c traces named name each = counted name named (all_differ traces named each)
