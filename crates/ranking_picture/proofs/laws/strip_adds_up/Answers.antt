use Rattle.ranking_picture.proofs.StripLemmas.{strip_drawn, strip_sum}
use Rattle.ranking_picture.proofs.laws.strip_adds_up.Goals as goal

pub returns-clause-width : goal.returns-clause-width
returns-clause-width c all critical times le some = strip_sum c.places.ensures.on_scale c.places.ensures.order c.places.ensures.exact all critical le some times

pub returns-clause-drawn : goal.returns-clause-drawn
returns-clause-drawn c = strip_drawn
