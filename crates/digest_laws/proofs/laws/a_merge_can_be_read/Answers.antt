use Rattle.digest_laws.proofs.MergedLemmas.{merged_readable}
use Rattle.digest_laws.proofs.laws.a_merge_can_be_read.Goals as goal

pub returns : goal.returns
returns c = merged_readable
