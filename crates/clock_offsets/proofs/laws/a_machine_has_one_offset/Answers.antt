use Rattle.clock_offsets.proofs.UniqueLemmas.{IsOffset-unique}
use Rattle.clock_offsets.proofs.laws.a_machine_has_one_offset.Goals as goal

pub returns : goal.returns
returns c = λ events m a b. IsOffset-unique events m a b
