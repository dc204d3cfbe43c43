use Rattle.step_core.proofs.PlainLemmas.{as_printed}
use Rattle.step_core.proofs.laws.a_plain_number_is_as_printed.Goals as goal

pub returns : goal.returns
returns c n word lt = as_printed n word lt
