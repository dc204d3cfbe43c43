use Rattle.day_partitions.proofs.CallLemmas.{one_list_is_kept}
use Rattle.day_partitions.proofs.laws.one_list_is_kept.Goals as goal

pub returns : goal.returns
returns c = one_list_is_kept
