use Rattle.day_partitions.proofs.CallLemmas.{calls_keep}
use Rattle.day_partitions.proofs.laws.calls_keep.Goals as goal

pub returns : goal.returns
returns c = calls_keep
