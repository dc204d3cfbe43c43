use Rattle.day_partitions.proofs.CallLemmas.{nothing_is_kept}
use Rattle.day_partitions.proofs.laws.nothing_is_kept.Goals as goal

pub returns : goal.returns
returns c = nothing_is_kept
