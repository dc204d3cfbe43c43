use Rattle.span_names.proofs.NumberingLemmas.{numbered_once}
use Rattle.span_names.proofs.laws.numbering_is_one_to_one.Goals as goal

pub returns : goal.returns
returns c = numbered_once
