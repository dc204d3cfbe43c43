use Rattle.trace_types.proofs.ListingLemmas.{name_total, pair_total}
use Rattle.trace_types.proofs.laws.names_are_totally_ordered.Goals as goal

pub returns-clause-names : goal.returns-clause-names
returns-clause-names g c = name_total

pub returns-clause-pairs : goal.returns-clause-pairs
returns-clause-pairs g c = pair_total
