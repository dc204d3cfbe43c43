use Rattle.trace_types.proofs.ListingLemmas.{one_rising_list, one_count}
use Rattle.trace_types.proofs.laws.a_list_is_told_in_one_way.Goals as goal

pub returns-clause-listed : goal.returns-clause-listed
returns-clause-listed g c = one_rising_list

pub returns-clause-counted : goal.returns-clause-counted
returns-clause-counted g c = one_count
