use Rattle.picture_parts.proofs.PlaceLemmas.{are_apart, is_within}
use Rattle.picture_parts.proofs.laws.spans.Goals as goal

pub returns-clause-within : goal.returns-clause-within
returns-clause-within c = is_within

pub returns-clause-apart : goal.returns-clause-apart
returns-clause-apart c = are_apart
