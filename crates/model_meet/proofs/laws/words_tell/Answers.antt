use Rattle.model_meet.proofs.TellingLemmas.{told_by_places}
use Rattle.model_meet.proofs.laws.words_tell.Goals as goal

pub returns : goal.returns
returns c = told_by_places c.places_differ.ensures c.places_fit.ensures
