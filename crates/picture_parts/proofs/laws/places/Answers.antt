use Rattle.picture_parts.proofs.PlaceLemmas.{exact, keep_order, on_scale}
use Rattle.picture_parts.proofs.laws.places.Goals as goal

pub returns-clause-on_scale : goal.returns-clause-on_scale
returns-clause-on_scale c = on_scale

pub returns-clause-order : goal.returns-clause-order
returns-clause-order c = keep_order

pub returns-clause-exact : goal.returns-clause-exact
returns-clause-exact c = exact
