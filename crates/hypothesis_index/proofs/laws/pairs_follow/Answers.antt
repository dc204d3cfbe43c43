use Rattle.hypothesis_index.proofs.PairLemmas.{pairs_below-gap}
use Rattle.hypothesis_index.proofs.laws.pairs_follow.Goals as goal

pub returns : goal.returns
returns c = pairs_below-gap
