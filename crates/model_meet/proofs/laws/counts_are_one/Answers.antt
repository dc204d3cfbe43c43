use Rattle.model_meet.proofs.CountLemmas.{counts_are_one}
use Rattle.model_meet.proofs.laws.counts_are_one.Goals as goal

pub returns : goal.returns
returns c = counts_are_one c.numbers_are_ordered.ensures c.a_list_is_told_in_one_way.ensures.counted
