use Rattle.span_names.proofs.EscapeLemmas.{escaped_once}
use Rattle.span_names.proofs.laws.escaping_is_one_to_one.Goals as goal

pub returns : goal.returns
returns c = escaped_once
