use Rattle.step_core.proofs.PlainLemmas.{by_digits}
use Rattle.step_core.proofs.laws.a_plain_number_is_plain_digits.Goals as goal

pub returns : goal.returns
returns c = by_digits
