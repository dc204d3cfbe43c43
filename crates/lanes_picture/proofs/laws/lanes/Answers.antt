use Rattle.lanes_picture.proofs.LawLemmas.{have_lanes, of_one}
use Rattle.lanes_picture.proofs.laws.lanes.Goals as goal

pub returns-clause-seen : goal.returns-clause-seen
returns-clause-seen c = have_lanes

pub returns-clause-one : goal.returns-clause-one
returns-clause-one c = of_one
