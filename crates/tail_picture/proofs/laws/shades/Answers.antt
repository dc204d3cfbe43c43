use Rattle.tail_picture.proofs.ShadeLemmas.{on_scale, order}
use Rattle.tail_picture.proofs.laws.shades.Goals as goal

pub returns-clause-on_scale : goal.returns-clause-on_scale
returns-clause-on_scale c = on_scale

pub returns-clause-order : goal.returns-clause-order
returns-clause-order c = order c.places.ensures.order
