use Rattle.implied_pairs.proofs.ReachLemmas.{same_reach}
use Rattle.implied_pairs.proofs.laws.the_same_reach.Goals as goal

pub returns : goal.returns
returns c = same_reach
