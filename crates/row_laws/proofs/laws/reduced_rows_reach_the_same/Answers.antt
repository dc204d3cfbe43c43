use Rattle.row_laws.proofs.ReachLemmas.{places_reach}
use Rattle.row_laws.proofs.laws.reduced_rows_reach_the_same.Goals as goal

pub returns : goal.returns
returns g c = places_reach c.the_same_reach.ensures _
