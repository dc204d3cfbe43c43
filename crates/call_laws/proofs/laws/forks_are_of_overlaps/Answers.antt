use Rattle.call_laws.proofs.OverlapLemmas.{forks_of_overlaps}
use Rattle.call_laws.proofs.laws.forks_are_of_overlaps.Goals as goal

pub returns : goal.returns
returns c = forks_of_overlaps
