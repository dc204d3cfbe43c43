use Rattle.hypothesis_index.proofs.PlaceLemmas.{places_apart}
use Rattle.hypothesis_index.proofs.laws.places_differ.Goals as goal

pub returns : goal.returns
returns c = places_apart
