use Rattle.room_picture.proofs.ScaleLemmas.{order, spans, within}
use Rattle.room_picture.proofs.laws.scale.Goals as goal

pub returns-clause-within : goal.returns-clause-within
returns-clause-within c = within c.places.ensures.on_scale c.places.ensures.order

pub returns-clause-order : goal.returns-clause-order
returns-clause-order c = order c.places.ensures.on_scale c.places.ensures.order

pub returns-clause-spans : goal.returns-clause-spans
returns-clause-spans c = spans c.places.ensures.on_scale c.places.ensures.order
