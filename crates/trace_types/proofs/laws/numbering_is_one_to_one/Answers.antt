use Rattle.trace_types.proofs.NumberingLemmas.{numbered_once, numbered_at}
use Rattle.trace_types.proofs.laws.numbering_is_one_to_one.Goals as goal

pub returns-clause-one_to_one : goal.returns-clause-one_to_one
returns-clause-one_to_one g c = numbered_once

pub returns-clause-matched : goal.returns-clause-matched
returns-clause-matched g c = numbered_at
