use Rattle.call_laws.proofs.OverlapLemmas.{groups_of_overlaps}
use Rattle.call_laws.proofs.laws.groups_are_of_overlaps.Goals as goal

pub returns : goal.returns
returns c = groups_of_overlaps
