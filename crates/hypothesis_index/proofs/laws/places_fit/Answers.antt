use Rattle.hypothesis_index.proofs.PlaceLemmas.{place_fits}
use Rattle.hypothesis_index.proofs.laws.places_fit.Goals as goal

pub returns : goal.returns
returns c = place_fits
