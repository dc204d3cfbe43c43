use Rattle.shared_elements.proofs.ElementLemmas.{CommonBelow}
use Rattle.shared_elements.proofs.common.count_common.Given as goal

abbrev pub invariant-elements : goal.invariant-elements
invariant-elements l = CommonBelow l.one l.other l.index l.count
